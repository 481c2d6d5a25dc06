-- A step leads somewhere exactly if there is an edge. Assumes nothing.
use Rattle.std.specs.Prelude.{ℕ, ◌≡◌, true, false}
use Rattle.std.proofs.Common.{sym, ◌∙◌, ⊎_elim}
use Rattle.shape.specs.Choice.{tell}
use Rattle.shape.specs.declared.Place.{Place}
use Rattle.steps.specs.Steps.{Table, step, joined}
use Rattle.steps.proofs.Joins.{near-at, near_none}
use Rattle.window.specs.Window.{reach}

module _ (T : Table) (h d k p : ℕ) (q : Place) where
  there : joined h d k (step T p) q ≡ true → (reach T h d k p q).there ≡ true
  unfolding reach
  there e = rw (near-at T h d k p q e, reach)

  nowhere-to : joined h d k (step T p) q ≡ false → (reach T h d k p q).there ≡ false
  unfolding reach
  nowhere-to e = rw (near_none T h d k p q e, reach)

  pub reach-there : (reach T h d k p q).there ≡ joined h d k (step T p) q
  reach-there = ⊎_elim (λ e. there e ∙ sym e) (λ e. nowhere-to e ∙ sym e) (tell (joined h d k (step T p) q))
