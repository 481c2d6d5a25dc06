-- A PASS OVER A WORK LIST is a merging step: it takes a list that covers to a state that shows the next window, and to a list that covers
-- there. Where pointers do not ride, the list names all nodes and stays. Assumes nothing.
use Rattle.std.specs.Prelude.{ℕ, ◌<◌, ◌≡◌, Bool, true, false}
use Rattle.steps.specs.Steps.{Table}
use Rattle.window.specs.Window.{is_merging, size}
use Rattle.window.specs.declared.Window.{Window}
use Rattle.closure.specs.Closure.{Kept}
use Rattle.flat.specs.Entries.{State, entry}
use Rattle.flat.specs.Plan.{Plan}
use Rattle.flat.specs.Step.{named, Places}
use Rattle.shows.specs.Planned.{Planned}
use Rattle.shows.specs.Shows.{Shows}
use Rattle.shows.specs.Riding.{Riding}
use Rattle.shows.specs.Quiet.{Covers}

-- WHILE CLUSTERS MERGE
pub record Going (T : Table) (P : Plan) (w : Window) (st : State) (rides : Bool) (count : ℕ) (list : ℕ → ℕ) : Type 0 where
  pub kept : Kept T w
  pub merging : is_merging w.stage ≡ true
  pub planned : Planned T w.shape.height w.shape.distance P
  pub shows : Shows T w st
  pub places : Places (size w) count list
  pub covers : Covers T w (λ g. named list count (entry g))
  pub riding : rides ≡ true → Riding T w
  pub all : rides ≡ false → (g : ℕ) → g < size w → named list count (entry g) ≡ true
