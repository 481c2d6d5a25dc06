-- CLOSURE: the window that a call gives, where it is done, is well-formed, so that no later call is refused 21. Assumes nothing.
use Rattle.std.specs.Prelude.{ℕ, ◌≡◌, true, false, not, List, length}
use Rattle.std.proofs.Math.Path.{subst}
use Rattle.std.proofs.lemmas.Bool.{not-true}
use Rattle.refusal.specs.Answer.{done}
use Rattle.shape.specs.Sizes.{IsShape, detectors_of, shape_by}
use Rattle.steps.specs.Steps.{Table}
use Rattle.shape.specs.declared.Shape.{Shape}
use Rattle.window.specs.Window.{is_rest, is_to_grow, is_merging}
use Rattle.window.specs.Formed.{well_formed}
use Rattle.window.specs.Fresh.{fresh_window}
use Rattle.window.specs.Round.{rounded}
use Rattle.window.specs.Measured.{differences, measuring}
use Rattle.window.specs.Grow.{grown}
use Rattle.window.specs.Merging.{merged}
use Rattle.window.specs.Run.{ran}
use Rattle.window.specs.declared.Ran.{Ran}
use Rattle.window.specs.Calls.{Round, receiving, receiving_raw, fresh_call, round_call, raw_call, grow_call, merging_call, run_call}
use Rattle.window.proofs.LawsFresh.{started}
use Rattle.window.specs.declared.Window.{Window}
use Rattle.closure.specs.Sized.{Sized}
use Rattle.steps.specs.Moves.{Move, Steps, table_of}
use Rattle.steps.specs.Suited.{Suited}
use Rattle.steps.proofs.Suits.{suited}
use Rattle.closure.specs.Fresh.{fresh, fresh-sized}
use Rattle.closure.specs.Round.{round, round-sized}
use Rattle.closure.specs.Measured.{measure, measure-sized}
use Rattle.closure.specs.Grow.{grow, grow-sized}
use Rattle.closure.specs.Merging.{merging, merging-sized}
use Rattle.closure.specs.Run.{run-keeps}
use Rattle.closure.specs.Done.{staged, accepted}

-- well-formed, with arrays of their lengths
pub record Kept (T : Table) (w : Window) : Type 0 where
  pub formed : well_formed T w ≡ true
  pub sized : Sized T w

-- THE STATEMENT, for each call on any window whose arrays have their lengths, whatever else it is given
pub record Closed (T : Table) : Type 0 where
  pub fresh_calls : (height distance model largest_height largest_distance : ℕ) (v : Window) (n : ℕ) → fresh_call T height distance model largest_height largest_distance ≡ done v n → Kept T v
  pub round_calls : (w : Window) (bytes edges escapes : List ℕ) (v : Round) (n : ℕ) → Sized T w → round_call T w bytes edges escapes ≡ done v n → Kept T v.window
  pub raw_calls : (w : Window) (bytes edges escapes : List ℕ) (v : Round) (n : ℕ) → Sized T w → raw_call T w bytes edges escapes ≡ done v n → Kept T v.window
  pub grow_calls : (w v : Window) (n : ℕ) → Sized T w → grow_call T w ≡ done v n → Kept T v
  pub merging_calls : (w v : Window) (n : ℕ) → Sized T w → merging_call T w ≡ done v n → Kept T v
  pub run_calls : (w : Window) (budget : ℕ) (v : Ran) (n : ℕ) → Sized T w → run_call T w budget ≡ done v n → Kept T v.window

-- THE RULES

pub kept_fresh : (T : Table) (sh : Shape) → IsShape sh → Kept T (fresh_window T sh)
kept_fresh T sh range = record { formed = fresh T sh range; sized = fresh-sized T sh }

module _ (T : Table) (S : Suited T) where
  module _ (w : Window) (k : Kept T w) where
    pub kept-round : (defects : List ℕ) → is_rest w.stage ≡ true → Kept T (rounded T w defects)
    kept-round defects st = record { formed = round T w defects S k.formed st; sized = round-sized T w defects k.sized }

    pub kept-measuring : (bytes : List ℕ) → length bytes ≡ detectors_of w.shape.height w.shape.distance → Kept T (measuring w bytes)
    kept-measuring bytes long = record { formed = measure T w bytes long k.formed; sized = measure-sized T w bytes long k.formed k.sized }

    pub kept-grow : Kept T (grown T w)
    kept-grow = record { formed = grow T S.proper w k.formed; sized = grow-sized T w k.sized }

    pub kept-merging : is_merging w.stage ≡ true → Kept T (merged T w)
    kept-merging st = record { formed = merging T w S k.formed st; sized = merging-sized T w k.sized }

  -- a round of raw measurements
  pub kept-raw : (w : Window) → Kept T w → (bytes : List ℕ) → is_rest w.stage ≡ true → length bytes ≡ detectors_of w.shape.height w.shape.distance
      → Kept T (measuring (rounded T w (differences w.measured bytes)) bytes)
  unfolding rounded
  kept-raw w k bytes st long =
      let d = differences w.measured bytes in
      kept-measuring (rounded T w d) (kept-round w k d st) bytes long

  pub kept_run : (w : Window) → Kept T w → (budget : ℕ) → is_rest w.stage ≡ false → Kept T (ran T budget w).window
  kept_run w k budget st = run-keeps T (Kept T) (λ v e i. kept-grow v i) (λ v e i. kept-merging v i e) budget w st k

-- THE CALLS

module _ (T : Table) (S : Suited T) where
  fresh-done : (h d m largest_height largest_distance : ℕ) (v : Window) (n : ℕ) → fresh_call T h d m largest_height largest_distance ≡ done v n → Kept T v
  fresh-done h d m largest_height largest_distance v n e =
      let x = started T h d m largest_height largest_distance v n e in
      subst (λ (u : Window). Kept T u) x.value (kept_fresh T (shape_by h d m) x.range)

  module _ (w : Window) (s : Sized T w) where
    round-done : (bytes edges escapes : List ℕ) (v : Round) (n : ℕ) → round_call T w bytes edges escapes ≡ done v n → Kept T v.window
    unfolding round_call
    round-done bytes edges escapes v n e =
        let x = accepted T w bytes edges escapes (receiving T w bytes) v n e in
        subst (λ (r : Round). Kept T r.window) x.value (kept-round T S w (record { formed = x.formed; sized = s }) bytes x.staged)

    raw-done : (bytes edges escapes : List ℕ) (v : Round) (n : ℕ) → raw_call T w bytes edges escapes ≡ done v n → Kept T v.window
    unfolding raw_call
    raw-done bytes edges escapes v n e =
        let x = accepted T w bytes edges escapes (receiving_raw T w bytes) v n e in
        subst (λ (r : Round). Kept T r.window) x.value (kept-raw T S w (record { formed = x.formed; sized = s }) bytes x.staged x.long)

    grow-done : (v : Window) (n : ℕ) → grow_call T w ≡ done v n → Kept T v
    unfolding grow_call
    grow-done v n e =
        let x = staged T w (is_to_grow w.stage) (grown T w) v n e in
        subst (λ (u : Window). Kept T u) x.value (kept-grow T S w (record { formed = x.formed; sized = s }))

    merging-done : (v : Window) (n : ℕ) → merging_call T w ≡ done v n → Kept T v
    unfolding merging_call
    merging-done v n e =
        let x = staged T w (is_merging w.stage) (merged T w) v n e in
        subst (λ (u : Window). Kept T u) x.value (kept-merging T S w (record { formed = x.formed; sized = s }) x.staged)

    run-done : (budget : ℕ) (v : Ran) (n : ℕ) → run_call T w budget ≡ done v n → Kept T v.window
    unfolding run_call
    run-done budget v n e =
        let x = staged T w (not (is_rest w.stage)) (ran T budget w) v n e in
        subst (λ (r : Ran). Kept T r.window) x.value (kept_run T S w (record { formed = x.formed; sized = s }) budget (not-true _ x.staged))

  pub closed : Closed T
  closed =
      record {
        fresh_calls = fresh-done;
        round_calls = λ w bytes edges escapes v n s e. round-done w s bytes edges escapes v n e;
        raw_calls = λ w bytes edges escapes v n s e. raw-done w s bytes edges escapes v n e;
        grow_calls = λ w v n s e. grow-done w s v n e;
        merging_calls = λ w v n s e. merging-done w s v n e;
        run_calls = λ w budget v n s e. run-done w s budget v n e;
      }

-- of every table of steps
pub closed-steps : (ms : List Move) → Steps ms → Closed (table_of ms)
closed-steps ms M = closed (table_of ms) (suited ms M)
