-- ROUND AFTER ROUND ON THE MACHINE'S ARRAYS: between two records one set holds a window, for every window that was held at the start.
-- Assumes nothing.
use Rattle.std.specs.Prelude.{ℕ, ◌≤◌, ◌<◌, ◌≡◌, refl, Bool, true, List, length}
use Rattle.std.proofs.Common.{sym, ◌∙◌, subst}
use Rattle.refusal.specs.Bytes.{Bytes}
use Rattle.shape.specs.declared.Shape.{Shape}
use Rattle.steps.specs.Steps.{Table}
use Rattle.steps.specs.Models.{of_model}
use Rattle.window.specs.Window.{is_rest}
use Rattle.window.specs.declared.Window.{Window}
use Rattle.closure.specs.Closure.{Kept}
use Rattle.decoding.specs.Decoding.{Line}
use Rattle.decoding.specs.Answers.{RecordAnswer, to, over, rounds_returned, rounds_leave}
use Rattle.flat.specs.Entries.{State, state_of}
use Rattle.flat.specs.Plan.{Plan, plan_of}
use Rattle.flat.specs.Structs.{state_in}
use Rattle.flat.specs.declared.Sizes.{Sizes}
use Rattle.flat.specs.declared.arrays.Arrays.{Arrays}
use Rattle.flat.specs.declared.arrays.Work.{Work}
use Rattle.shows.specs.Shows.{Shows}
use Rattle.round_step.specs.Falls.{NoneOutside}
use Rattle.shows.specs.Turn.{Held}
use Rattle.turn.specs.Ready.{HeldAt, ReadyIn}
use Rattle.one_record.specs.RecordOn.{RecordOn}
use Rattle.rounds_on.specs.Passing.{PassedOn, pass-stop, pass_on}

-- THE END, of a window: what the rule leaves, with a window at rest that a set shows
pub record RoundsEnd (T : Table) (w : Window) (s : List ℕ) (at : ℕ) (old : List ℕ) (from : ℕ) (line : Line) (i j : ℕ) (new : List ℕ) (next : ℕ) (st : State) : Type 0 where
  pub window : Window
  pub leaves : rounds_returned line window i j new ≡ rounds_leave T s w at old from
  pub shape : window.shape ≡ w.shape
  pub next-is : window.next ≡ next
  pub measured : window.measured ≡ w.measured
  pub kept : Kept T window
  pub rest : is_rest window.stage ≡ true
  pub shows : Shows T window st

-- for every window that was held
abbrev pub RoundsOn : Plan → Shape → ℕ → State → Bool → Bool → List ℕ → ℕ → List ℕ → ℕ → Line → ℕ → ℕ → List ℕ → ℕ → State → Type 0
RoundsOn P sh next₀ st₀ rides₀ quiet₀ s at old from line i j new next st =
    (w : Window) → w.shape ≡ sh → w.next ≡ next₀ → Held (of_model sh.model) P w st₀ rides₀ quiet₀ → RoundsEnd (of_model sh.model) w s at old from line i j new next st

-- BETWEEN TWO RECORDS, of a window: the rounds left give the whole
record Along (T : Table) (P : Plan) (w : Window) (s : List ℕ) (at : ℕ) (old : List ℕ) (from i : ℕ) (out : List ℕ) (j next : ℕ) (st : State) (rides quiet : Bool) : Type 0 where
  window : Window
  same : rounds_leave T s w at old from ≡ rounds_leave T s window i out j
  shape : window.shape ≡ w.shape
  next-is : window.next ≡ next
  measured : window.measured ≡ w.measured
  held : Held T P window st rides quiet

-- for every window that was held; the arrays are ready for the next one
pub record Between (sh : Shape) (z : Sizes) (table : List ℕ) (next₀ : ℕ) (st₀ : State) (rides₀ quiet₀ : Bool) (s : List ℕ) (at : ℕ) (old : List ℕ) (from : ℕ)
    (i : ℕ) (out : List ℕ) (j next : ℕ) (rides quiet : Bool) (arrays other : Arrays) (work : Work) : Type 0 where
  pub ready : ReadyIn sh z table next rides quiet arrays other work
  pub size : length out ≡ length old
  each : (w : Window) → w.shape ≡ sh → w.next ≡ next₀ → Held (of_model sh.model) (plan_of z table) w st₀ rides₀ quiet₀
      → Along (of_model sh.model) (plan_of z table) w s at old from i out j next (state_in arrays) rides quiet

module _ (sh : Shape) (z : Sizes) (table : List ℕ) where
  abbrev P : Plan
  P = plan_of z table

  -- margins of a set that shows a window hold no edge
  held-outside : (next : ℕ) (nodes marks edges : List ℕ) (rides quiet : Bool) → HeldAt (plan_of z table) sh next (state_of nodes marks edges) rides quiet
      → NoneOutside (of_model sh.model) sh.height sh.distance edges
  held-outside next nodes marks edges rides quiet h =
      subst (λ (o : Shape). NoneOutside (of_model sh.model) o.height o.distance edges) h.1 h.3.shows.margins

  pub begins : (next : ℕ) (rides quiet : Bool) (s : List ℕ) (at : ℕ) (old : List ℕ) (from : ℕ) (arrays other : Arrays) (work : Work)
      → ReadyIn sh z table next rides quiet arrays other work
      → Between sh z table next (state_in arrays) rides quiet s at old from at old from next rides quiet arrays other work
  begins next rides quiet s at old from arrays other work r =
      record { ready = r; size = refl; each = λ w a b H. record { window = w; same = refl; shape = refl; next-is = b; measured = refl; held = H } }

  module _ (next₀ : ℕ) (st₀ : State) (rides₀ quiet₀ : Bool) (s : List ℕ) (at : ℕ) (old : List ℕ) (from : ℕ)
      (i : ℕ) (out : List ℕ) (j next : ℕ) (rides quiet : Bool) (arrays other : Arrays) (work : Work)
      (B : Between sh z table next₀ st₀ rides₀ quiet₀ s at old from i out j next rides quiet arrays other work)
      (answer : RecordAnswer) (new : List ℕ) (next' : ℕ) (rides' quiet' : Bool) (arrays' : Arrays) (work' : Work)
      (R : RecordOn (plan_of z table) sh next (state_in arrays) rides quiet s i out j answer new next' rides' quiet' arrays' work') where
    -- it stops with the window of before
    pub stops : (l : Line) → answer ≡ over l → RoundsOn (plan_of z table) sh next₀ st₀ rides₀ quiet₀ s at old from l i j new next (state_in arrays)
    stops l k w a b H =
        let v = B.each w a b H in
        let r = R.each v.window (v.shape ∙ a) v.next-is v.held in
        record {
          window = v.window;
          leaves = pass-stop (of_model sh.model) s v.window i out j answer r.window new r.leaves l k ∙ sym v.same;
          shape = v.shape;
          next-is = v.next-is;
          measured = v.measured;
          kept = v.held.kept;
          rest = v.held.rest;
          shows = v.held.shows;
        }

    -- it goes on, with the sets in each other's place
    module _ (b : Bytes s) (i' j' : ℕ) (k : answer ≡ to i' j') where
      abbrev held : HeldAt P sh next (state_in arrays) rides quiet
      held = B.ready.held

      passed_on : PassedOn (of_model sh.model) s held.0 i out j (R.each held.0 held.1 held.2 held.3).window i' new j'
      passed_on = let r = R.each held.0 held.1 held.2 held.3 in pass_on (of_model sh.model) s held.0 i out j answer r.window new r.leaves b i' j' k

      pub goes-forward : i < i'
      goes-forward = passed_on.forward

      pub goes-inside : i' ≤ length s
      goes-inside = passed_on.inside

      held_in : (v : Window) → Held (of_model sh.model) P v (state_in arrays') rides quiet' → Held (of_model sh.model) P v (state_in arrays') rides' quiet'
      held_in v H = rw R.same H

      after : (w : Window) → w.shape ≡ sh → w.next ≡ next₀ → Held (of_model sh.model) P w st₀ rides₀ quiet₀
          → Along (of_model sh.model) P w s at old from i' new j' next' (state_in arrays') rides' quiet'
      after w a n H =
          let v = B.each w a n H in
          let r = R.each v.window (v.shape ∙ a) v.next-is v.held in
          let o = pass_on (of_model sh.model) s v.window i out j answer r.window new r.leaves b i' j' k in
          let h = r.held i' j' k in
          record {
            window = r.window;
            same = v.same ∙ o.same;
            shape = h.0 ∙ v.shape;
            next-is = h.1;
            measured = h.2 ∙ v.measured;
            held = held_in r.window h.3;
          }

      pub goes : Between sh z table next₀ st₀ rides₀ quiet₀ s at old from i' new j' next' rides' quiet' arrays' arrays work'
      goes =
          let m = B.ready in
          let r = R.each held.0 held.1 held.2 held.3 in
          let h = r.held i' j' k in
          record {
            ready = record {
              range = m.range;
              sizes = m.sizes;
              filled = m.filled;
              long = R.long;
              free = m.long;
              outside = held-outside next arrays.nodes arrays.marks arrays.edges rides quiet held;
              scratch = R.scratch;
              held = (r.window, h.0 ∙ held.1, h.1, held_in r.window h.3);
            };
            size = passed_on.long ∙ B.size;
            each = after;
          }
