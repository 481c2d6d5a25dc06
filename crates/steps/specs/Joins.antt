-- An edge along a step, taken apart: what the test says of its two ends. Assumes nothing.
use Rattle.std.specs.Prelude.{ℕ, ◌+◌, ◌≤◌, ◌≡◌, true, false, ◌||◌}
use Rattle.shape.specs.Counting.{Inside}
use Rattle.steps.specs.Steps.{stay, stays, beside, across, both_detectors}
use Rattle.shape.specs.declared.Place.{Place}
use Rattle.steps.specs.declared.Shift.{Shift}
use Rattle.steps.specs.declared.Step.{Step}

-- a shift does not go below 0
abbrev pub Clear : Shift → ℕ → Type 0
Clear s a = s.less ≤ a + s.more

pub record Joins (h d k : ℕ) (st : Step) (q : Place) : Type 0 where
  pub from : Inside h d k q
  pub to : Inside h d k (across st q)
  pub row : Clear st.row q.row
  pub column : Clear st.column q.column
  pub sheet : Clear st.sheet q.depth
  pub moves : stays st ≡ false
  pub kind : (beside st || both_detectors d st q) ≡ true

-- by value, in a row of columns 0 to 5: a step of two columns joins detectors, and neither boundary node
abbrev pub two_east : Step
two_east = record { row = stay; column = record { less = 0; more = 2 }; sheet = stay; back = 0; kind = 0; own = true }

abbrev pub column : ℕ → Place
column c = record { depth = 0; row = 0; column = c }
