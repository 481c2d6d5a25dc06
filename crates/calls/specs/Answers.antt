-- What the calls answer and leave, refused ones too. Assumes nothing.
use Rattle.std.specs.Prelude.{ℕ, Bool, true, false, List, Result, Ok, Err}
use Rattle.refusal.specs.Answer.{Answer, done, turned, and_then, without_value, value_or, itself}
use Rattle.refusal.specs.declared.Refusal.{Refusal}
use Rattle.steps.specs.Steps.{Table}
use Rattle.window.specs.Window.{is_rest}
use Rattle.window.specs.Calls.{Answered, given, Round, window_of, edges_of, escapes_of, round_call, raw_call, merging_call, run_call}
use Rattle.window.specs.declared.Window.{Window}
use Rattle.calls.specs.declared.Outcome.{Outcome}
use Rattle.calls.specs.declared.Outcome.TheVariants as outcome
use Rattle.calls.specs.declared.Merged.{Merged}
use Rattle.calls.specs.declared.Merged.TheVariants as merged

-- ROUND, plain or raw: the answer, the window and both buffers

pub record RoundReturned : Type 0 where
  pub answer : Answer (Unit {0})
  pub window : Window
  pub edges : List ℕ
  pub escapes : List ℕ

abbrev pub round_returned : Answer (Unit {0}) → Window → List ℕ → List ℕ → RoundReturned
round_returned a w edges escapes = record { answer = a; window = w; edges = edges; escapes = escapes }

-- what is refused stays as it was
abbrev pub round_left : Answer Round → Window → List ℕ → List ℕ → RoundReturned
round_left a w edges escapes = round_returned (without_value a) (value_or a window_of w) (value_or a edges_of edges) (value_or a escapes_of escapes)

abbrev pub round_leaves : Table → Window → List ℕ → List ℕ → List ℕ → RoundReturned
round_leaves T w bytes edges escapes = round_left (round_call T w bytes edges escapes) w edges escapes

abbrev pub raw_leaves : Table → Window → List ℕ → List ℕ → List ℕ → RoundReturned
raw_leaves T w bytes edges escapes = round_left (raw_call T w bytes edges escapes) w edges escapes

-- MERGING: the answer says whether the stage is rest

abbrev pub merging_answer : Result Merged Refusal → Answer Bool
merging_answer (Ok merged.Busy) = done false 0
merging_answer (Ok merged.Rest) = done true 0
merging_answer (Err f) = turned f

abbrev pub merging_leaves : Table → Window → Answered Bool
merging_leaves T w =
    let a = merging_call T w in
    given (and_then a (λ v n. done (is_rest v.stage) n)) (value_or a itself w)

-- RUN: at rest with the count of steps made, or spent with it

pub data Ended : Type 0 where
  rest : ℕ → Ended
  spent : ℕ → Ended

abbrev pub run_answer : Result Outcome Refusal → Answer Ended
run_answer (Ok (outcome.Rest n)) = done (rest n) 0
run_answer (Ok (outcome.Spent n)) = done (spent n) 0
run_answer (Err f) = turned f

abbrev pub ended_by : Bool → ℕ → Ended
ended_by true n = rest n
ended_by false n = spent n

abbrev pub run_leaves : Table → Window → ℕ → Answered Ended
run_leaves T w budget =
    let a = run_call T w budget in
    given (and_then a (λ r n. done (ended_by r.rest r.count) n)) (value_or a (λ r. r.window) w)
