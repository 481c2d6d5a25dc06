-- ONE RECORD that is written: the calls that made it, and what they leave. Assumes nothing.
use Rattle.std.specs.Prelude.{ℕ, zero, suc, ◌+◌, ◌≤◌, ◌≡◌, refl, Bool, true, false, not, List, ltb, length, replicate}
use Rattle.std.proofs.Common.{arith, sym, ◌∙◌}
use Rattle.std.proofs.Math.Path.{ap}
use Rattle.std.proofs.lemmas.Bool.{not-true}
use Rattle.refusal.specs.Answer.{done, ended}
use Rattle.refusal.specs.Bytes.{Bytes}
use Rattle.refusal.specs.Done.{took}
use Rattle.number.specs.Number.{largest}
use Rattle.list.specs.Sheet.{list_at}
use Rattle.list.specs.Trip.{ListWrites, list-writes}
use Rattle.shape.specs.Choice.{if}
use Rattle.steps.specs.Steps.{Table}
use Rattle.layers.specs.Layers.{layer_edges}
use Rattle.shape.specs.declared.Shape.{Shape}
use Rattle.record.specs.Records.{round_at, Result, result}
use Rattle.trip.specs.Fits.{RecordFits, detectors_in, edges_in}
use Rattle.window.specs.Window.{is_rest, is_to_grow}
use Rattle.window.specs.Round.{rounded, committed_edges, escaped_defects}
use Rattle.window.specs.Grow.{grown}
use Rattle.window.specs.Merging.{merged}
use Rattle.window.specs.Run.{steps_from, ran}
use Rattle.window.specs.LawsRun.{steps-rest, steps_on, none_left, ran-count}
use Rattle.window.specs.Calls.{Round, receiving, round_call, run_call}
use Rattle.window.specs.declared.Ran.{Ran}
use Rattle.window.specs.declared.Window.{Window}
use Rattle.closure.specs.Done.{accepted, staged}
use Rattle.closure.specs.Run.{run-keeps}
use Rattle.decoding.specs.Decoding.{budget, Turn, wrote, turn_at, record_at}
use Rattle.decoding.specs.LawsTurn.{detectors, edges}
use Rattle.decoding.proofs.LawsTurn.{committed-long, committed-bits, escaped-long, escaped-bits, turn-made}
use Rattle.decoding.proofs.LawsDecoding.{record-written}

-- WHAT A RUN COUNTS, and where it says that it came to rest

steps-end : (T : Table) (n made : ℕ) (w : Window) → (steps_from T n made w).rest ≡ true → is_rest (steps_from T n made w).window.stage ≡ true
steps-end T zero made w e = let z : ◌≡◌ {A = Bool} false true = sym (ap (λ (r : Ran). r.rest) (none_left T made w)) ∙ e in cc
steps-end T (suc n) made w e = go (is_rest (merged T w).stage) refl (steps-end T n (made + 1) (merged T w))
  where
    go : (b : Bool) → is_rest (merged T w).stage ≡ b
        → ((steps_from T n (made + 1) (merged T w)).rest ≡ true → is_rest (steps_from T n (made + 1) (merged T w)).window.stage ≡ true)
        → is_rest (steps_from T (suc n) made w).window.stage ≡ true
    go true k on = rw (steps-rest T made w n k) k
    go false k on = rw (steps_on T made w n k) (on (sym (ap (λ (r : Ran). r.rest) (steps_on T made w n k)) ∙ e))

module _ (T : Table) (w : Window) where
  count_fits : (ran T budget w).count ≤ largest
  count_fits = omega (arith, ran-count T budget w)

  ran-rests : (ran T budget w).rest ≡ true → is_rest (ran T budget w).window.stage ≡ true
  unfolding ran
  ran-rests e = steps-end T budget 0 (if (is_to_grow w.stage) (grown T w) w) e

  ran-shape : (sh : Shape) → is_rest w.stage ≡ false → w.shape ≡ sh → (ran T budget w).window.shape ≡ sh
  unfolding grown merged
  ran-shape sh st e = run-keeps T (λ v. v.shape ≡ sh) (λ v i k. k) (λ v i k. k) budget w st e

-- THE CALLS THAT MADE IT

-- the calls that made a record: a round read and received, then run to rest
pub record ByCalls (T : Table) (s : List ℕ) (w : Window) (at : ℕ) (bytes : List ℕ) (v : Window) (next : ℕ) : Type 0 where
  pub sheet : List ℕ
  pub round : Round
  pub run : Ran
  pub reads : round_at s (detectors w) at ≡ done sheet next
  pub receives : (z : ℕ) × (round_call T w sheet (replicate {A = ℕ} (edges T w) 0) (replicate {A = ℕ} (detectors w) 0) ≡ done round z)
  pub runs : (z : ℕ) × (run_call T round.window budget ≡ done run z)
  pub makes : bytes ≡ result (record { edges = round.edges; escapes = round.escapes; steps = run.count })
  pub window : run.window ≡ v
  pub rests : run.rest ≡ true

module _ (T : Table) (s : List ℕ) (w : Window) (at : ℕ) (bytes : List ℕ) (v : Window) (next : ℕ) (t : Turn)
    (made : bytes ≡ result t.result) (window : t.window ≡ v) (rest : t.rest ≡ true) where
  by_turn : turn_at T s w at ≡ done t next → ByCalls T s w at bytes v next
  by_turn e =
      let m = turn-made T s w at t next e in
      record {
        sheet = m.sheet;
        round = m.round;
        run = m.run;
        reads = m.reads;
        receives = m.receives;
        runs = m.runs;
        makes = made ∙ ap (λ (u : Turn). result u.result) (sym m.gives);
        window = ap (λ (u : Turn). u.window) m.gives ∙ window;
        rests = ap (λ (u : Turn). u.rest) m.gives ∙ rest;
      }

pub by-calls : (T : Table) (s : List ℕ) (size : ℕ) (w : Window) (at to : ℕ) (bytes : List ℕ) (v : Window) (next : ℕ) → record_at T s size w at to ≡ wrote bytes v next
    → ByCalls T s w at bytes v next
by-calls T s size w at to bytes v next e =
    let x = record-written T s size w at to bytes v next e in
    by_turn T s w at bytes v next x.turn x.made x.window x.rest x.answer

-- WHAT THE CALLS LEAVE

module _ (T : Table) (s : List ℕ) (w : Window) (at : ℕ) (bytes : List ℕ) (v : Window) (next : ℕ) (p : ByCalls T s w at bytes v next) where
  abbrev pub result_by : Result
  result_by = record { edges = p.round.edges; escapes = p.round.escapes; steps = p.run.count }

  gave : receiving T w p.sheet ≡ p.round
  unfolding round_call
  gave = (accepted T w p.sheet (replicate {A = ℕ} (edges T w) 0) (replicate {A = ℕ} (detectors w) 0) (receiving T w p.sheet) p.round p.receives.0 p.receives.1).value

  module _ (sh : Shape) (same : w.shape ≡ sh) where
    round-shape : p.round.window.shape ≡ sh
    unfolding rounded
    round-shape = ap (λ (r : Round). r.window.shape) (sym gave) ∙ same

    abbrev run-staged : Type 0
    run-staged = (is_rest p.round.window.stage ≡ false) × (ran T budget p.round.window ≡ p.run)

    staged-run : run-staged
    unfolding run_call
    staged-run =
        let x = staged T p.round.window (not (is_rest p.round.window.stage)) (ran T budget p.round.window) p.run p.runs.0 p.runs.1 in
        (not-true _ x.staged, x.value)

    pub by_shape : v.shape ≡ sh
    by_shape =
        ap (λ (u : Window). u.shape) (sym p.window)
        ∙ ap (λ (r : Ran). r.window.shape) (sym staged-run.1)
        ∙ ran-shape T p.round.window sh staged-run.0 round-shape

    pub by-rest : is_rest v.stage ≡ true
    by-rest =
        ap (λ (u : Window). is_rest u.stage) (sym p.window)
        ∙ ap (λ (r : Ran). is_rest r.window.stage) (sym staged-run.1)
        ∙ ran-rests T p.round.window (ap (λ (r : Ran). r.rest) staged-run.1 ∙ p.rests)

    pub by_fits : layer_edges T sh.height sh.distance ≡ edges_in sh → RecordFits sh result_by
    by_fits K =
        let a : p.round.edges ≡ committed_edges T w = ap (λ (r : Round). r.edges) (sym gave) in
        let b : p.round.escapes ≡ escaped_defects w = ap (λ (r : Round). r.escapes) (sym gave) in
        let c : p.run.count ≡ (ran T budget p.round.window).count = ap (λ (r : Ran). r.count) (sym staged-run.1) in
        record {
          edges = record { size = rw a (committed-long T w ∙ ap (λ (x : Shape). layer_edges T x.height x.distance) same ∙ K); bits = rw a (committed-bits T w) };
          escapes = record { size = rw b (escaped-long w ∙ ap detectors_in same); bits = rw b (escaped-bits w) };
          steps = rw c (count_fits T p.round.window);
        }

  pub by-sheet : Bytes s → ListWrites s (detectors w) at p.sheet next
  by-sheet b = list-writes s (detectors w) at p.sheet next b (took (ltb at (length s)) (list_at s (detectors w) at) ended p.sheet next refl p.reads).1
