-- A round of the stream received and run: no call refuses it, and what leaves can be written. Assumes nothing.
use Rattle.std.specs.Prelude.{ℕ, ◌-◌, ◌<◌, ◌≡◌, true, false, not, List, length, replicate}
use Rattle.std.proofs.Math.Path.{refl}
use Rattle.std.proofs.Common.{sym, ◌∙◌, ap, lt-ltb, eq-eqb}
use Rattle.std.proofs.Math.ListN.{get_or}
use Rattle.std.proofs.lemmas.List.{length-replicate}
use Rattle.refusal.specs.Answer.{Answer, done, and_then}
use Rattle.refusal.specs.Done.{goes_on_lem, went}
use Rattle.refusal.specs.Holds.{hold-pass}
use Rattle.list.specs.Sheet.{are_bits}
use Rattle.layers.specs.Layers.{edge_of}
use Rattle.shape.specs.Nodes.{index_of}
use Rattle.shape.specs.Sizes.{sheets_of}
use Rattle.steps.specs.Steps.{Table}
use Rattle.record.specs.Records.{round_at}
use Rattle.window.specs.LawsLists.{length-by, bits-by}
use Rattle.window.specs.Window.{is_rest, at, max_next}
use Rattle.window.specs.Formed.{well_formed}
use Rattle.window.specs.Round.{edge_slot, detector_at, rounded, committed_edges, escaped_defects}
use Rattle.window.specs.Run.{ran}
use Rattle.window.specs.Calls.{Round, receiving, round_tests, round_call, state_tests, run_call}
use Rattle.window.specs.declared.Ran.{Ran}
use Rattle.window.specs.declared.Window.{Window}
use Rattle.closure.specs.Round.{round}
use Rattle.steps.specs.Suited.{Suited}
use Rattle.decoding.specs.Decoding.{budget, Turn, turn_of, turn_at}
use Rattle.decoding.specs.LawsTurn.{Bits, TurnMade, detectors, edges}

module _ (n : ℕ) (xs : List ℕ) (b : Bits n xs) where
  bits-long : length xs ≡ n
  bits-long = ap length b.bytes ∙ length-by _ n

  bits-fine : are_bits xs ≡ true
  bits-fine = ap are_bits b.bytes ∙ bits-by b.rule n

module _ (T : Table) (w : Window) where
  committed-by : Bits (edges T w) (committed_edges T w)
  unfolding committed_edges
  committed-by =
      let h = w.shape.height in
      let d = w.shape.distance in
      record { rule = λ i. get_or w.correction (edge_slot h d (sheets_of d - 1) (edge_of T h d i)) false; bytes = refl }

  pub committed-long : length (committed_edges T w) ≡ edges T w
  committed-long = bits-long _ _ committed-by

  pub committed-bits : are_bits (committed_edges T w) ≡ true
  committed-bits = bits-fine _ _ committed-by

module _ (w : Window) where
  escaped-by : Bits (detectors w) (escaped_defects w)
  unfolding escaped_defects
  escaped-by =
      let h = w.shape.height in
      let d = w.shape.distance in
      record { rule = λ i. (at w (index_of h d (detector_at d (sheets_of d - 1) i))).defect; bytes = refl }

  pub escaped-long : length (escaped_defects w) ≡ detectors w
  escaped-long = bits-long _ _ escaped-by

  pub escaped-bits : are_bits (escaped_defects w) ≡ true
  escaped-bits = bits-fine _ _ escaped-by

-- THE ROUND

module _ (T : Table) (w : Window) where
  -- what is done with the round that was received, and with the bytes that were read
  abbrev pub on_ran : Round → ℕ → Ran → ℕ → Answer Turn
  on_ran r next v z = done (record { window = v.window; result = record { edges = r.edges; escapes = r.escapes; steps = v.count }; rest = v.rest }) next

  abbrev pub on_round : ℕ → Round → ℕ → Answer Turn
  on_round next r z = and_then (run_call T r.window budget) (on_ran r next)

  abbrev pub on_bytes : List ℕ → ℕ → Answer Turn
  on_bytes bytes next = and_then (round_call T w bytes (replicate {A = ℕ} (edges T w) 0) (replicate {A = ℕ} (detectors w) 0)) (on_round next)

  pub turn-steps : (s : List ℕ) (at : ℕ) → turn_at T s w at ≡ and_then (round_at s (detectors w) at) on_bytes
  unfolding turn_at
  turn-steps s at = refl

  module _ (S : Suited T) (formed : well_formed T w ≡ true) (rest : is_rest w.stage ≡ true) (next : w.next < max_next) (bytes : List ℕ)
      (long : length bytes ≡ detectors w) (bits : are_bits bytes ≡ true) where
    -- no call refuses it
    round-accepted : round_call T w bytes (replicate {A = ℕ} (edges T w) 0) (replicate {A = ℕ} (detectors w) 0) ≡ done (receiving T w bytes) 0
    unfolding round_call
    round-accepted =
        hold-pass (round_tests T w bytes (length (replicate {A = ℕ} (edges T w) 0)) (length (replicate {A = ℕ} (detectors w) 0)))
        (formed, (rest, (lt-ltb _ _ next, (eq-eqb _ _ long, (eq-eqb _ _ (length-replicate {A = ℕ} (edges T w) 0), (eq-eqb _ _ (length-replicate {A = ℕ} (detectors w) 0), (bits, tt)))))))
        Round (done (receiving T w bytes) 0)

    to-grow : not (is_rest (rounded T w bytes).stage) ≡ true
    unfolding rounded
    to-grow = refl

    round-run : run_call T (rounded T w bytes) budget ≡ done (ran T budget (rounded T w bytes)) 0
    unfolding run_call
    round-run =
        hold-pass (state_tests T (rounded T w bytes) (not (is_rest (rounded T w bytes).stage))) (round T w bytes S formed rest, (to-grow, tt)) Ran
        (done (ran T budget (rounded T w bytes)) 0)

    pub turn-done : (s : List ℕ) (at behind : ℕ) → round_at s (detectors w) at ≡ done bytes behind → turn_at T s w at ≡ done (turn_of T w bytes) behind
    turn-done s at behind e =
        turn-steps s at ∙ goes_on_lem on_bytes e ∙ goes_on_lem (on_round behind) round-accepted ∙ goes_on_lem (on_ran (receiving T w bytes) behind) round-run

pub turn-made : (T : Table) (s : List ℕ) (w : Window) (at : ℕ) (t : Turn) (next : ℕ) → turn_at T s w at ≡ done t next → TurnMade T s w at t next
turn-made T s w at t next e =
    let a = went (round_at s (detectors w) at) (on_bytes T w) t next (sym (turn-steps T w s at) ∙ e) in
    let b = went (round_call T w a.value (replicate {A = ℕ} (edges T w) 0) (replicate {A = ℕ} (detectors w) 0)) (on_round T w a.next) t next a.after in
    let d = went (run_call T b.value.window budget) (on_ran T w b.value a.next) t next b.after in
    let k : a.next ≡ next = cc d.after in
    record {
      sheet = a.value;
      round = b.value;
      run = d.value;
      reads = a.before ∙ ap (λ (i : ℕ). done a.value i) k;
      receives = (b.next, b.before);
      runs = (d.next, d.before);
      gives = cc d.after;
    }
