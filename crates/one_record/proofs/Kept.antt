-- One record of a window that the arrays hold, by the round that is received next. Assumes nothing.
use Prim.Native.Nat.{ℕ, zero, suc, ◌+◌, ◌-◌, ◌≤◌}
use native.Mathlib.Omega.{arith}
use mathlib.Core.Path.{◌≡◌, refl, sym, ◌∙◌, ap, subst}
use mathlib.Core.Bool.{Bool, true}
use mathlib.Core.List.{List, ◌∷◌}
use Rattle.std.specs.Prelude.{Option, Some, None, Result, Ok, Err, IsErr, IsErrAnd, ok_or}
use Rattle.std.specs.Result.{OnErr}
use Rattle.decoding.specs.declared.Ending.{Ending}
use lib.ListN.{length, take, replicate}
use Rattle.refusal.specs.Answer.{Answer, done, ended, and_then, turned, code_of, without_value, value_or, itself}
use Rattle.refusal.specs.Bytes.{Bytes}
use Rattle.refusal.specs.Laws.{ended-on, turned_on, done_on}
use Rattle.refusal.specs.Writing.{Buffered, buffered}
use Rattle.refusal.specs.declared.Refusal.{Refusal}
use Rattle.list.specs.Sheet.{read_into}
use Rattle.record.specs.Calls.{round_answer}
use Rattle.shape.specs.Sizes.{detectors_of}
use Rattle.shape.specs.declared.Shape.{Shape}
use Rattle.steps.specs.Models.{of_model}
use Rattle.steps.proofs.Models.{suited-model}
use Rattle.window.specs.declared.Ran.{Ran}
use Rattle.window.specs.declared.Window.{Window}
use Rattle.decoding.specs.Decoding.{Line, finished, turned_back, Turn, turn_by, turn_of, Recorded, recorded}
use Rattle.decoding.specs.Answers.{RecordAnswer, over, to, RecordReturned, record_returned, recorded_leaves, record_leaves}
use Rattle.decoding.proofs.LawsDecoding.{recorded-turned}
use Rattle.flat.specs.Entries.{State, Long}
use Rattle.flat.specs.Plan.{Plan}
use Rattle.flat.specs.Structs.{state_in}
use Rattle.flat.specs.declared.arrays.Arrays.{Arrays}
use Rattle.flat.specs.declared.arrays.Work.{Work}
use Rattle.next_round.specs.Next.{next_round}
use Rattle.next_round.specs.Laws.{record-next}
use Rattle.shows.specs.Turn.{Held}
use Rattle.turn.specs.Ready.{Scratch}
use Rattle.turn.specs.Turned.{Turned, TurnLeaves}
use Rattle.one_record.specs.RecordOf.{window_after, RecordOf}
use Rattle.one_record.specs.RecordOn.{RecordOn}

-- a part of zeros
pub take-zeros : (n m : ℕ) → n ≤ m → take n (replicate {A = ℕ} m 0) ≡ replicate n 0
take-zeros zero m l = refl
take-zeros (suc n) zero l = absurd (omega arith)
take-zeros (suc n) (suc m) l = ap (λ (x : List ℕ). 0 ∷ x) (take-zeros n m (omega arith))

-- what `?` hands on
pub ended-as : {A : Type 0} (r : Result A Ending) (e : Ending) → IsErr r → IsErrAnd r (λ x. x ≡ e) → r ≡ Err e
ended-as (Ok v) e i k = absurd k
ended-as (Err x) e i k = ap Err k

-- what holds in any case holds where there is an error
pub in-case : {A P : Type 0} (r : Result A Ending) → P → OnErr r P
in-case (Ok v) p = tt
in-case (Err x) p = p

-- what `ok_or` makes of a round that was looked for
pub none-found : (o : Option ℕ) (e x : Ending) → ok_or o e ≡ Err x → (o ≡ None) × (x ≡ e)
none-found None e x k = (refl, let y : e ≡ x = cc k in sym y)
none-found (Some v) e x k = absurd (let z : ◌≡◌ {A = ℕ} 0 1 = cc k in omega arith)

pub one-found : (o : Option ℕ) (e : Ending) (v : ℕ) → ok_or o e ≡ Ok v → o ≡ Some v
one-found None e v k = absurd (let z : ◌≡◌ {A = ℕ} 0 1 = cc k in omega arith)
one-found (Some w) e v k = ap Some (let y : w ≡ v = cc k in y)

-- what a reading found, by its answer and its buffer
module _ (a : Answer (List ℕ)) (r : Result (Option ℕ) Refusal) (new : List ℕ) (told : buffered (round_answer r) new ≡ read_into a new) where
  pub read_answer : without_value a ≡ round_answer r
  read_answer = sym (ap (λ (x : Buffered). x.answer) told)

  pub read_done : (behind : ℕ) → r ≡ Ok (Some behind) → a ≡ done new behind
  read_done behind e =
      let v = done_on a behind (read_answer ∙ ap round_answer e) in
      let same : new ≡ v.0 = ap (λ (x : Buffered). x.buffer) told ∙ ap (λ (x : Answer (List ℕ)). value_or x itself new) v.1 in
      v.1 ∙ ap (λ (l : List ℕ). done l behind) (sym same)

module _ (P : Plan) (sh : Shape) (next : ℕ) (before : Arrays) (rides quiet : Bool) (s : List ℕ) (b : Bytes s) (at : ℕ) (old : List ℕ) (from : ℕ) where
  abbrev st₀ : State
  st₀ = state_in before

  -- what is found of the next round
  abbrev found : Answer (List ℕ)
  found = next_round s (detectors_of sh.height sh.distance) next at (length old) from

  abbrev turned_by : Window → List ℕ → ℕ → Answer Turn
  turned_by w bytes behind = done (turn_of (of_model sh.model) w bytes) behind

  -- by it, what the rule leaves
  abbrev leaves : Window → Answer Turn → RecordReturned
  leaves w a = recorded_leaves (recorded (length old - from) a) w old from

  whole_is : (w : Window) → w.shape ≡ sh → w.next ≡ next → Held (of_model sh.model) P w st₀ rides quiet → leaves w (and_then found (turned_by w)) ≡ record_leaves (of_model sh.model) s w at old from
  whole_is w e f H =
      let q : next_round s (detectors_of w.shape.height w.shape.distance) w.next at (length old) from ≡ found = rw (e, f) in
      ap (λ (x : Answer (List ℕ)). leaves w (and_then x (turned_by w))) (sym q)
      ∙ ap (λ (x : Recorded). recorded_leaves x w old from) (record-next (of_model sh.model) (suited-model sh.model) s b w H.kept.formed H.rest at (length old) from)

  -- IT STOPS BEFORE A ROUND: window and arrays stay
  module _ (arrays : Arrays) (long : Long arrays.nodes arrays.marks arrays.edges) (work : Work) (scratch : Scratch work) where
    stops : (l : Line) → ((w : Window) → record_returned (over l) w old ≡ leaves w (and_then found (turned_by w)))
        → RecordOn P sh next (state_in before) rides quiet s at old from (over l) old next rides quiet arrays work
    stops l q =
        record {
          long = long;
          scratch = scratch;
          same = refl;
          each = λ w e f H. record { window = w; leaves = q w ∙ whole_is w e f H; held = λ i j k. absurd (let z : ◌≡◌ {A = ℕ} 0 1 = cc in omega arith) };
        }

    pub on-end : without_value (next_round s (detectors_of sh.height sh.distance) next at (length old) from) ≡ ended
        → RecordOn P sh next (state_in before) rides quiet s at old from (over finished) old next rides quiet arrays work
    on-end z = stops finished (λ w. ap (leaves w) (sym (ended-on found (turned_by w) z)))

    pub on-refused : (f : Refusal) → without_value (next_round s (detectors_of sh.height sh.distance) next at (length old) from) ≡ turned f
        → RecordOn P sh next (state_in before) rides quiet s at old from (over (turned_back (code_of f))) old next rides quiet arrays work
    on-refused f z =
        stops (turned_back (code_of f))
        (λ w. ap (λ (x : Recorded). recorded_leaves x w old from) (sym (recorded-turned (length old - from) f)) ∙ ap (leaves w) (sym (turned_on found f (turned_by w) z)))

  -- A ROUND WAS READ, received and run
  module _ (bytes : List ℕ) (behind : ℕ) (read : next_round s (detectors_of sh.height sh.distance) next at (length old) from ≡ done bytes behind)
      (rest : Bool) (made : ℕ) (arrays : Arrays) (work : Work)
      (L : TurnLeaves P sh next bytes (state_in before) rides quiet rest made arrays work)
      (answer : RecordAnswer) (new : List ℕ) (put : RecordOf sh before.nodes before.edges rest made behind old from answer new) where
    abbrev st : State
    st = state_in arrays

    module _ (w : Window) (e : w.shape ≡ sh) (f : w.next ≡ next) (H : Held (of_model sh.model) P w st₀ rides quiet) where
      turns : Turned (of_model sh.model) P w bytes rides rest made st
      turns = L.turns w e f H

      abbrev run : Ran
      run = record { window = turns.window; rest = rest; count = made }

      written : record_returned answer (window_after answer w turns.window) new ≡ record_leaves (of_model sh.model) s w at old from
      written =
          put.each w e before.marks H.shows run refl refl
          ∙ ap (λ (v : Ran). leaves w (done (turn_by (of_model sh.model) w v) behind)) (sym turns.equals)
          ∙ ap (λ (x : Answer (List ℕ)). leaves w (and_then x (turned_by w))) (sym read)
          ∙ whole_is w e f H

      held_after : (i j : ℕ) → answer ≡ to i j
          → ((window_after answer w turns.window).shape ≡ w.shape) × ((window_after answer w turns.window).next ≡ next + 1) × ((window_after answer w turns.window).measured ≡ w.measured)
          × Held (of_model sh.model) P (window_after answer w turns.window) st rides true
      held_after i j k =
          subst (λ (v : Window). (v.shape ≡ w.shape) × (v.next ≡ next + 1) × (v.measured ≡ w.measured) × Held (of_model sh.model) P v st rides true) (sym (ap (λ (x : RecordAnswer). window_after x w turns.window) k))
          (turns.shape, turns.next ∙ ap (λ (n : ℕ). n + 1) f, turns.measured, turns.held (put.rested i j k))

    pub on_read : RecordOn P sh next (state_in before) rides quiet s at old from answer new (next + 1) rides true arrays work
    on_read =
        record {
          long = L.long;
          scratch = L.scratch;
          same = refl;
          each = λ w e f H. record { window = window_after answer w (turns w e f H).window; leaves = written w e f H; held = held_after w e f H };
        }

    -- where it ended, the rule says nothing of what is held
    pub on-ended : (next' : ℕ) (quiet' : Bool) (l : Line) → answer ≡ over l → RecordOn P sh next (state_in before) rides quiet s at old from answer new next' rides quiet' arrays work
    on-ended next' quiet' l k =
        record {
          long = L.long;
          scratch = L.scratch;
          same = refl;
          each = λ w e f H.
              record {
                window = window_after answer w (turns w e f H).window;
                leaves = written w e f H;
                held = λ i j t. absurd (let u : over l ≡ to i j = sym k ∙ t in let z : ◌≡◌ {A = ℕ} 0 1 = cc in omega arith);
              };
        }
