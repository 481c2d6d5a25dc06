-- THE CALLS, refused ones too: what each answers and leaves, in the documents' numbers. Assumes nothing.
use Rattle.std.specs.Prelude.{ℕ, Bool, not, List, [], ◌∷◌, ltb, eqb, length, Result, Ok, Err}
use Rattle.refusal.specs.Answer.{Answer, done, turned, unless, and_then, without_value, value_or, itself}
use Rattle.refusal.specs.declared.Refusal.{Refusal}
use Rattle.list.specs.Sheet.{are_bits}
use Rattle.shape.specs.Sizes.{detectors_of}
use Rattle.creation.specs.Creation.{allowed_shape}
use Rattle.steps.specs.Steps.{Table}
use Rattle.layers.specs.Layers.{layer_edges}
use Rattle.window.specs.Window.{is_rest, is_to_grow, is_merging, max_next}
use Rattle.window.specs.Fresh.{fresh_window, no_window}
use Rattle.window.specs.Formed.{well_formed}
use Rattle.window.specs.Round.{rounded, committed_edges, escaped_defects}
use Rattle.window.specs.Measured.{differences, measuring}
use Rattle.window.specs.Grow.{grown}
use Rattle.window.specs.Merging.{merged}
use Rattle.window.specs.Run.{ran}
use Rattle.window.specs.declared.Ran.{Ran}
use Rattle.window.specs.declared.Window.{Window}

-- THE ANSWERS

abbrev pub call_answer : Result (Unit {0}) Refusal → Answer (Unit {0})
call_answer (Ok u) = done tt 0
call_answer (Err f) = turned f

-- what a call answers, and the window after it
pub record Answered (A : Type 0) : Type 0 where
  pub answer : Answer A
  pub window : Window

abbrev pub given : {A : Type 0} → Answer A → Window → Answered A
given a w = record { answer = a; window = w }

-- the window that a call gives where it is done, and the one that it was given where not
abbrev pub leaves : {A : Type 0} → Answer A → (A → Window) → Window → Answered (Unit {0})
leaves a of w = given (without_value a) (value_or a of w)

-- creation, for the caller's largest height and distance: 1, 2, 31, 32
unfoldable pub fresh_call : Table → (height distance model largest_height largest_distance : ℕ) → Answer Window
fresh_call T height distance model largest_height largest_distance =
    and_then (allowed_shape height distance model largest_height largest_distance) (λ sh n. done (fresh_window T sh) n)

-- what it leaves: no window where it is refused
abbrev pub fresh_leaves : Table → (height distance model largest_height largest_distance : ℕ) → Answered (Unit {0})
fresh_leaves T height distance model largest_height largest_distance = leaves (fresh_call T height distance model largest_height largest_distance) itself no_window

-- what a round call leaves, plain or raw
pub record Round : Type 0 where
  pub window : Window
  pub edges : List ℕ
  pub escapes : List ℕ

abbrev pub as_round : Window → List ℕ → List ℕ → Round
as_round w edges escapes = record { window = w; edges = edges; escapes = escapes }

abbrev pub window_of : Round → Window
window_of r = r.window

abbrev pub edges_of : Round → List ℕ
edges_of r = r.edges

abbrev pub escapes_of : Round → List ℕ
escapes_of r = r.escapes

module _ (T : Table) (w : Window) where
  -- 21 before 22
  abbrev pub state_tests : Bool → List (Bool × ℕ)
  state_tests stage = (well_formed T w, 21) ∷ (stage, 22) ∷ []

  -- of both round calls: 21, 22, 23, 3, 5, 6, 4; of the buffers their lengths
  abbrev pub round_tests : List ℕ → ℕ → ℕ → List (Bool × ℕ)
  round_tests bytes edges escapes =
      (well_formed T w, 21)
      ∷ (is_rest w.stage, 22)
      ∷ (ltb w.next max_next, 23)
      ∷ (eqb (length bytes) (detectors_of w.shape.height w.shape.distance), 3)
      ∷ (eqb edges (layer_edges T w.shape.height w.shape.distance), 5)
      ∷ (eqb escapes (detectors_of w.shape.height w.shape.distance), 6)
      ∷ (are_bits bytes, 4)
      ∷ []

  -- a round received with these defects
  abbrev pub receiving : List ℕ → Round
  receiving defects = as_round (rounded T w defects) (committed_edges T w) (escaped_defects w)

  -- raw measurements: the round is received with the places that differ from the last measured sheet; then the sheet is the bytes
  abbrev pub receiving_raw : List ℕ → Round
  receiving_raw bytes =
      let r = receiving (differences w.measured bytes) in
      as_round (measuring r.window bytes) r.edges r.escapes

  -- a round call that leaves r where its tests pass
  abbrev pub round_by : Round → List ℕ → List ℕ → List ℕ → Answer Round
  round_by r bytes edges escapes = unless (round_tests bytes (length edges) (length escapes)) (done r 0)

  unfoldable pub round_call : List ℕ → List ℕ → List ℕ → Answer Round
  round_call bytes edges escapes = round_by (receiving bytes) bytes edges escapes

  unfoldable pub raw_call : List ℕ → List ℕ → List ℕ → Answer Round
  raw_call bytes edges escapes = round_by (receiving_raw bytes) bytes edges escapes

  unfoldable pub grow_call : Answer Window
  grow_call = unless (state_tests (is_to_grow w.stage)) (done (grown T w) 0)

  unfoldable pub merging_call : Answer Window
  merging_call = unless (state_tests (is_merging w.stage)) (done (merged T w) 0)

  unfoldable pub run_call : ℕ → Answer Ran
  run_call budget = unless (state_tests (not (is_rest w.stage))) (done (ran T budget w) 0)
