-- THE RECORD OF A ROUND THAT WAS RECEIVED AND RUN, of every window that the arrays showed before it: spent, without room, or written.
-- Assumes nothing.
use Rattle.std.specs.Prelude.{ℕ, ◌-◌, ◌≡◌, Bool, true, List, length}
use Rattle.refusal.specs.Answer.{done}
use Rattle.shape.specs.declared.Shape.{Shape}
use Rattle.steps.specs.Steps.{Table}
use Rattle.steps.specs.Models.{of_model}
use Rattle.window.specs.declared.Ran.{Ran}
use Rattle.window.specs.declared.Window.{Window}
use Rattle.decoding.specs.Decoding.{turn_by, recorded}
use Rattle.decoding.specs.Answers.{RecordAnswer, to, over, RecordReturned, record_returned, recorded_leaves}
use Rattle.flat.specs.Entries.{state_of}
use Rattle.shows.specs.Shows.{Shows}

-- what the rule leaves of a window's turn, by the run that came of its round
abbrev pub turn_leaves : Table → Window → Ran → ℕ → List ℕ → ℕ → RecordReturned
turn_leaves T w v behind old from = recorded_leaves (recorded (length old - from) (done (turn_by T w v) behind)) w old from

-- the window after a record that was written, else the one before it
abbrev pub window_after : RecordAnswer → Window → Window → Window
window_after (to i j) w v = v
window_after (over l) w v = w

pub record RecordOf (sh : Shape) (nodes edges : List ℕ) (rest : Bool) (made behind : ℕ) (old : List ℕ) (from : ℕ) (answer : RecordAnswer) (new : List ℕ) : Type 0 where
  pub rested : (i j : ℕ) → answer ≡ to i j → rest ≡ true
  pub each : (w : Window) → w.shape ≡ sh → (marks : List ℕ) → Shows (of_model sh.model) w (state_of nodes marks edges) → (v : Ran) → v.rest ≡ rest → v.count ≡ made
      → record_returned answer (window_after answer w v.window) new ≡ turn_leaves (of_model sh.model) w v behind old from
