-- THE NEXT LIST: it names the first listed nodes that stir, and what lies over their open edges. Assumes nothing.
use Rattle.std.specs.Prelude.{ℕ, ◌<◌, ◌≡◌, Bool, true, List, eqb}
use Rattle.flat.specs.Entries.{over_by}
use Rattle.flat.specs.Plan.{Plan}
use Rattle.flat.specs.Step.{named, list_at, Places}
use Rattle.queue.specs.Queue.{Queue, Extends}

pub record Next (P : Plan) (growth : ℕ → ℕ) (n : ℕ) (list : ℕ → ℕ) (stirred : ℕ → Bool) (count to more : ℕ) (old lists : List ℕ) (queued : List Bool) : Type 0 where
  pub queue : Queue to more lists queued
  -- the other lists are as they were
  pub extends : Extends to 0 more old lists
  pub places : Places n more (list_at lists to)
  pub self : (i : ℕ) → i < count → stirred i ≡ true → named (list_at lists to) more (list i) ≡ true
  pub near : (i k : ℕ) → i < count → k < P.dirs → stirred i ≡ true → eqb (growth (over_by (list i) (P.slot k))) 2 ≡ true
      → named (list_at lists to) more (over_by (list i) (P.off k)) ≡ true
