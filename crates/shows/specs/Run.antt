-- A RUN OVER LISTS, as its loop goes: while it is under way some window is shown whose steps are still to be made, and when it is over that
-- window is the run's. Assumes nothing.
use Rattle.std.specs.Prelude.{ℕ, ◌-◌, ◌≡◌, Bool, true}
use Rattle.steps.specs.Steps.{Table}
use Rattle.window.specs.Run.{steps_from}
use Rattle.window.specs.Window.{is_rest}
use Rattle.window.specs.declared.Ran.{Ran}
use Rattle.window.specs.declared.Window.{Window}
use Rattle.closure.specs.Closure.{Kept}
use Rattle.flat.specs.Entries.{State}
use Rattle.flat.specs.Plan.{Plan}
use Rattle.shows.specs.Shows.{Shows}
use Rattle.shows.specs.Riding.{Riding}
use Rattle.shows.specs.Quiet.{AllQuiet}
use Rattle.shows.specs.Pass.{Going}

module _ (T : Table) (P : Plan) (budget : ℕ) (whole : Ran) (rides : Bool) (w₀ : Window) where
  -- so many steps were made
  pub record Underway (made : ℕ) (st : State) (count : ℕ) (list : ℕ → ℕ) : Type 0 where
    pub window : Window
    pub shape : window.shape ≡ w₀.shape
    pub next : window.next ≡ w₀.next
    pub measured : window.measured ≡ w₀.measured
    pub going : Going T P window st rides count list
    pub equals : steps_from T (budget - made) made window ≡ whole

  pub record Over (rest : Bool) (total : ℕ) (st : State) : Type 0 where
    pub window : Window
    pub shape : window.shape ≡ w₀.shape
    pub next : window.next ≡ w₀.next
    pub measured : window.measured ≡ w₀.measured
    pub equals : whole ≡ record { window = window; rest = rest; count = total }
    pub kept : Kept T window
    pub shows : Shows T window st
    pub still : rest ≡ true → is_rest window.stage ≡ true
    pub riding : rides ≡ true → Riding T window
    pub quiet : rest ≡ true → rides ≡ true → AllQuiet T window
