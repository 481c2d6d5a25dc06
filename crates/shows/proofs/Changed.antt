-- THE FIRST WORK LIST OF A TURN, as its loops make it: ends of edges that opened, nodes that were cut and what lies over their open edges,
-- and the new defects. From a window in which every node is quiet, it covers. Assumes nothing.
use Rattle.std.specs.Prelude.{ℕ, ◌-◌, ◌<◌, ◌≡◌, Bool, true, false, List}
use Rattle.std.proofs.Common.{◌∙◌, ap}
use Rattle.std.proofs.Math.Path.{subst}
use Rattle.shape.proofs.Ranges.{halves}
use Rattle.steps.specs.Steps.{Table}
use Rattle.steps.specs.Suited.{Suited}
use Rattle.window.specs.Grow.{grown}
use Rattle.window.specs.Round.{rounded}
use Rattle.window.specs.Window.{is_rest, size, sheet, at, to}
use Rattle.window.specs.declared.Node.{Node}
use Rattle.window.specs.declared.Window.{Window}
use Rattle.closure.specs.After.{orphan}
use Rattle.closure.specs.Closure.{Kept, kept-round, kept-grow}
use Rattle.closure.specs.Facts.{Facts, facts}
use Rattle.flat.specs.Entries.{State, entry}
use Rattle.flat.specs.Plan.{Plan}
use Rattle.flat.specs.Step.{named}
use Rattle.shows.specs.Planned.{Planned}
use Rattle.shows.specs.Shows.{Shows}
use Rattle.shows.specs.Riding.{opens, Riding}
use Rattle.shows.specs.Quiet.{Covers, AllQuiet}
use Rattle.shows.proofs.Read.{node-within-entry, way-is, pointer-entry, pointer-open}
use Rattle.shows.proofs.Grown.{cuts-is}
use Rattle.shows.proofs.Rested.{rested-covers}
use Rattle.shows.specs.Changed.{Enlists}

module _ (T : Table) (S : Suited T) (w : Window) (k : Kept T w) (rest : is_rest w.stage ≡ true) (R : Riding T w) (Q : AllQuiet T w) (bytes : List ℕ)
    (P : Plan) (N : Planned T w.shape.height w.shape.distance P)
    (st₁ : State) (H₁ : Shows T (rounded T w bytes) st₁) (st₂ : State) (H₂ : Shows T (grown T (rounded T w bytes)) st₂)
    (count : ℕ) (list : ℕ → ℕ) (A : Enlists P (size w) (sheet w) st₁ st₂ count list) where
  abbrev w₁ : Window
  w₁ = rounded T w bytes

  abbrev w₂ : Window
  w₂ = grown T w₁

  k₁ : Kept T w₁
  k₁ = kept-round T S w k bytes rest

  F₁ : Facts T w₁
  F₁ = facts T w₁ k₁.formed

  F₂ : Facts T w₂
  F₂ = facts T w₂ (kept-grow T S w₁ k₁).formed

  abbrev listed : ℕ → Bool
  listed g = named list count (entry g)

  new : (g : ℕ) → g < size w → g < sheet w → (at w₁ g).defect ≡ true → listed g ≡ true
  unfolding rounded
  new g l x t = A.received g x (ap (λ (n : Node). n.defect) (H₁.nodes g l) ∙ t)

  ends : (g p : ℕ) → g < size w → opens T w₁ g p ≡ false → opens T w₂ g p ≡ true → listed g ≡ true
  unfolding grown rounded
  ends g p l c o =
      let e = (halves (to w₂ T p g).there _ o).0 in
      A.opened (entry g) (p - 1) (node-within-entry (size w) g l) (rw N.dirs (way-is T w₂ g p e).1)
      (pointer-open T S w₁ F₁ st₁ H₁ P N g p l e ∙ c) (pointer-open T S w₂ F₂ st₂ H₂ P N g p l e ∙ o)

  orphans : (g : ℕ) → g < size w → orphan T w₁ g ≡ true → listed g ≡ true
  unfolding rounded
  orphans g l o = A.cut (entry g) (node-within-entry (size w) g l) (cuts-is T S w₁ k₁ P N st₁ H₁ g l ∙ o)

  beside : (g p : ℕ) → g < size w → orphan T w₁ g ≡ true → opens T w₂ g p ≡ true → listed (to w₂ T p g).node ≡ true
  unfolding grown rounded
  beside g p l c o =
      let e = (halves (to w₂ T p g).there _ o).0 in
      subst (λ (x : ℕ). named list count x ≡ true) (pointer-entry T S w₂ F₂ st₂ H₂ P N g p l e)
      (A.near (entry g) (p - 1) (node-within-entry (size w) g l) (rw N.dirs (way-is T w₂ g p e).1) (cuts-is T S w₁ k₁ P N st₁ H₁ g l ∙ c) (pointer-open T S w₂ F₂ st₂ H₂ P N g p l e ∙ o))

  -- every node that the list does not name is quiet after grow
  pub enlists-covers : Covers T (grown T (rounded T w bytes)) (λ g. named list count (entry g))
  unfolding grown rounded
  enlists-covers = rested-covers T S w k rest R Q bytes listed new ends orphans beside
