-- WHAT OPENED is on the work list: both ends of every edge that opens, said for each of them in its direction. Assumes nothing.
use Rattle.std.specs.Prelude.{ℕ, ◌<◌, ◌≡◌, Bool, true, false, List, eqb}
use Rattle.flat.specs.Entries.{State, within, over_by}
use Rattle.flat.specs.Plan.{Plan}
use Rattle.flat.specs.Step.{named, list_at, Places}
use Rattle.queue.specs.Queue.{Queue}

pub record Openings (P : Plan) (n : ℕ) (st st' : State) (count : ℕ) (lists : List ℕ) (queued : List Bool) : Type 0 where
  pub queue : Queue 0 count lists queued
  pub places : Places n count (list_at lists 0)
  pub opened : (x k : ℕ) → within n x ≡ true → k < P.dirs → eqb (st.growth (over_by x (P.slot k))) 2 ≡ false → eqb (st'.growth (over_by x (P.slot k))) 2 ≡ true
      → named (list_at lists 0) count x ≡ true
