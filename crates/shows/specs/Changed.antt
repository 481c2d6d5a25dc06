-- THE FIRST WORK LIST OF A TURN, as its loops make it: ends of edges that opened, nodes that were cut and what lies over their open edges,
-- and the new defects. From a window in which every node is quiet, it covers. Assumes nothing.
use Rattle.std.specs.Prelude.{ℕ, ◌<◌, ◌≡◌, true, false, eqb}
use Rattle.window.specs.Window.{sheet}
use Rattle.flat.specs.Entries.{State, entry, within, over_by}
use Rattle.flat.specs.Plan.{Plan}
use Rattle.flat.specs.Step.{named, Places}
use Rattle.shows.specs.Grown.{cuts_at}

-- by entries: of n nodes, so many to a sheet; st₁ after the round, st₂ after grow
pub record Enlists (P : Plan) (n sheet : ℕ) (st₁ st₂ : State) (count : ℕ) (list : ℕ → ℕ) : Type 0 where
  pub places : Places n count list
  -- each end of an edge that opened
  pub opened : (x k : ℕ) → within n x ≡ true → k < P.dirs → eqb (st₁.growth (over_by x (P.slot k))) 2 ≡ false → eqb (st₂.growth (over_by x (P.slot k))) 2 ≡ true
      → named list count x ≡ true
  -- each node that was cut
  pub cut : (x : ℕ) → within n x ≡ true → cuts_at P n sheet st₁ x ≡ true → named list count x ≡ true
  -- and what lies over its open edges
  pub near : (x k : ℕ) → within n x ≡ true → k < P.dirs → cuts_at P n sheet st₁ x ≡ true → eqb (st₂.growth (over_by x (P.slot k))) 2 ≡ true
      → named list count (over_by x (P.off k)) ≡ true
  -- the new defects
  pub received : (i : ℕ) → i < sheet → st₁.defect (entry i) ≡ true → named list count (entry i) ≡ true
