-- ONE RECORD ON THE MACHINE'S ARRAYS: what it leaves is what the rule leaves of every window that they held. Assumes nothing.
use Rattle.std.specs.Prelude.{ℕ, ◌≡◌, Bool, List}
use Rattle.shape.specs.declared.Shape.{Shape}
use Rattle.steps.specs.Steps.{Table}
use Rattle.steps.specs.Models.{of_model}
use Rattle.window.specs.declared.Window.{Window}
use Rattle.decoding.specs.Answers.{RecordAnswer, to, RecordReturned, record_returned, record_leaves}
use Rattle.flat.specs.Entries.{State, Long}
use Rattle.flat.specs.Plan.{Plan}
use Rattle.flat.specs.Structs.{state_in}
use Rattle.flat.specs.declared.arrays.Arrays.{Arrays}
use Rattle.flat.specs.declared.arrays.Work.{Work}
use Rattle.shows.specs.Turn.{Held}
use Rattle.turn.specs.Ready.{Scratch}

-- the whole is answer, window and buffer by the rule; a window whose record was written is held in the other set
pub record RecordedOn (T : Table) (P : Plan) (w : Window) (whole : RecordReturned) (answer : RecordAnswer) (new : List ℕ) (rides quiet : Bool) (next : ℕ) (st : State) : Type 0 where
  pub window : Window
  pub leaves : record_returned answer window new ≡ whole
  pub held : (i j : ℕ) → answer ≡ to i j → (window.shape ≡ w.shape) × (window.next ≡ next) × (window.measured ≡ w.measured) × Held T P window st rides quiet

-- for every window that was held
pub record RecordOn (P : Plan) (sh : Shape) (next : ℕ) (st : State) (rides quiet : Bool) (s : List ℕ) (at : ℕ) (old : List ℕ) (from : ℕ)
    (answer : RecordAnswer) (new : List ℕ) (next' : ℕ) (rides' quiet' : Bool) (arrays : Arrays) (work : Work) : Type 0 where
  pub long : Long arrays.nodes arrays.marks arrays.edges
  pub scratch : Scratch work
  pub same : rides' ≡ rides
  pub each : (w : Window) → w.shape ≡ sh → w.next ≡ next → Held (of_model sh.model) P w st rides quiet
      → RecordedOn (of_model sh.model) P w (record_leaves (of_model sh.model) s w at old from) answer new rides quiet' next' (state_in arrays)
