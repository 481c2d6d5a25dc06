-- GROW, WHERE IT IS DUE, by entries, with a list of ends of the edges that opened. Assumes nothing.
use Rattle.std.specs.Prelude.{ℕ, ◌≡◌, Bool, true, false, List}
use Rattle.flat.specs.Entries.{State}
use Rattle.flat.specs.Plan.{Plan}
use Rattle.flat.specs.Step.{list_at, Places}
use Rattle.queue.specs.Queue.{Queue}
use Rattle.shows.specs.Grown.{Grows}

pub record Due (due : Bool) (P : Plan) (n sheet : ℕ) (st st' : State) (count : ℕ) (lists : List ℕ) (queued : List Bool) : Type 0 where
  pub grows : due ≡ true → Grows P n sheet st st'
  pub same : due ≡ false → st' ≡ st
  pub queue : Queue 0 count lists queued
  pub places : Places n count (list_at lists 0)
