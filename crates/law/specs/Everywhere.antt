-- CONSERVATION IN EVERY ROUND, the absent ones too: so it is proved, and of the supplied ones it is the law. Assumes nothing.
use Rattle.std.specs.Prelude.{ℕ, ◌+◌, ◌%◌, ◌≤◌, ◌<◌, ◌≡◌, ltb}
use Rattle.std.proofs.Common.{sym, ◌∙◌, ap, le-ltb}
use Rattle.shape.specs.Choice.{if, if-false}
use Rattle.steps.specs.Steps.{Table}
use Rattle.window.specs.Lists.{bit}
use Rattle.law.specs.Law.{Played, Spot, height, distance, sheets, last, committed, pending, standing, escaped, ending}
use Rattle.law.specs.Law as law

module _ (p : Played) where
  -- 0 in an absent round
  abbrev pub received : Spot → ℕ
  received a = if (ltb a.round (sheets p)) 0 (law.received p a)

  pub record Detector (a : Spot) : Type 0 where
    pub arrived : a.round ≤ last p
    pub row : a.row < height p
    pub west : 1 ≤ a.column
    pub east : a.column < distance p

abbrev pub Conserved : Table → Played → Type 0
Conserved T p =
    (a : Spot) → Detector p a
    → received p a % 2 ≡ (ending T p (committed p) a + ending T p (pending T p) a + bit (standing p a) + bit (escaped p a)) % 2

pub of-supplied : (T : Table) (p : Played) → Conserved T p → law.Conserved T p
of-supplied T p c a i =
    ap (λ (n : ℕ). n % 2) (sym (if-false (ltb a.round (sheets p)) 0 (law.received p a) (le-ltb a.round (sheets p) i.supplied)))
    ∙ c a (record { arrived = i.arrived; row = i.row; west = i.west; east = i.east })
