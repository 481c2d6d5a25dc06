-- ROUND AFTER ROUND: the law's calls make the records that a decoding writes. Assumes nothing.
use Prim.Native.Nat.{ℕ, zero, suc, ◌+◌, ◌-◌, ◌≤◌, ◌<◌}
use Rattle.std.proofs.Common.{arith, ◌∙◌}
use Rattle.std.specs.Prelude.{◌≡◌, drop, replicate}
use Rattle.std.proofs.Math.Path.{refl, sym, ap, ap₂}
use mathlib.Core.List.{List, [], ◌∷◌, ◌++◌, append_assoc, append-nil}
use Rattle.std.proofs.Math.ListN.{length}
use Rattle.std.proofs.Math.Seq.{append_snoc}
use Rattle.refusal.specs.Answer.{Answer, done, value_or}
use Rattle.refusal.specs.Bytes.{Bytes}
use Rattle.list.specs.Sheet.{listed}
use Rattle.steps.specs.Steps.{Table}
use Rattle.layers.specs.Layers.{layer_edges}
use Rattle.shape.specs.declared.Shape.{Shape}
use Rattle.trip.specs.Streams.{all_bytes}
use Rattle.trip.specs.Fits.{detectors_in, edges_in}
use Rattle.window.specs.Calls.{Round, window_of, round_call}
use Rattle.window.specs.declared.Ran.{Ran}
use Rattle.window.specs.declared.Window.{Window}
use Rattle.law.specs.Law.{Call, round, run, Receipt, receipt_of, returned, receipted, play}
use Rattle.decoding.specs.Decoding.{Line, finished, budget, Recorded, wrote, stopped, record_at, Rounds, stop, after, rounds_from, rounds}
use Rattle.account.specs.Account.{calls_of, receipts_of, count_of, counts_of}
use Rattle.account.specs.ByCalls.{ByCalls, by-calls, result_by, by_shape, by-rest, by_fits, by-sheet}
use Rattle.account.specs.Ends.{finished-end}
use Rattle.account.specs.Follow.{Followed, without_raw}

-- ONE TURN of the law's calls

module _ (T : Table) (sh : Shape) (K : layer_edges T sh.height sh.distance ≡ edges_in sh) (s : List ℕ) (w : Window) (at : ℕ) (bytes : List ℕ) (v : Window) (next : ℕ)
    (p : ByCalls T s w at bytes v next) (same : w.shape ≡ sh) where
  abbrev receives : Call
  receives = round p.sheet (replicate {A = ℕ} (edges_in sh) 0) (replicate {A = ℕ} (detectors_in sh) 0)

  abbrev runs : Call
  runs = run budget

  abbrev receipt : Receipt
  receipt = receipt_of p.sheet p.round

  round-done : round_call T w p.sheet (replicate {A = ℕ} (edges_in sh) 0) (replicate {A = ℕ} (detectors_in sh) 0) ≡ done p.round p.receives.0
  round-done =
      ap (λ (n : ℕ). round_call T w p.sheet (replicate {A = ℕ} n 0) (replicate {A = ℕ} (detectors_in sh) 0)) (sym K)
      ∙ ap (λ (x : Shape). round_call T w p.sheet (replicate {A = ℕ} (layer_edges T x.height x.distance) 0) (replicate {A = ℕ} (detectors_in x) 0)) (sym same)
      ∙ p.receives.1

  window-round : returned T w receives ≡ p.round.window
  window-round = ap (λ (a : Answer Round). value_or a window_of w) round-done

  window-run : returned T p.round.window runs ≡ v
  window-run = ap (λ (a : Answer Ran). value_or a (λ r. r.window) p.round.window) p.runs.1 ∙ p.window

  window-both : returned T (returned T w receives) runs ≡ v
  window-both = ap (λ (u : Window). returned T u runs) window-round ∙ window-run

  one-receipt : receipted T w receives ≡ receipt ∷ []
  one-receipt = ap (λ (a : Answer Round). value_or a (λ r. receipt_of p.sheet r ∷ []) []) round-done

  one-count : count_of T p.round.window runs ≡ p.run.count ∷ []
  one-count = ap (λ (a : Answer Ran). value_or a (λ r. r.count ∷ []) []) p.runs.1

  turn-plays : (before : List Receipt) (cs : List Call)
      → play T (without_raw w before) (receives ∷ runs ∷ cs) ≡ play T (without_raw v (before ++ (receipt ∷ []))) cs
  unfolding play
  turn-plays before cs =
      ap₂ (λ (u : Window) (l : List Receipt). play T (without_raw u l) cs) window-both
      (append-nil (before ++ receipted T w receives) ∙ ap (λ (l : List Receipt). before ++ l) one-receipt)

  turn-counts : (cs : List Call) → counts_of T w (receives ∷ runs ∷ cs) ≡ p.run.count ∷ counts_of T v cs
  unfolding counts_of
  turn-counts cs =
      ap (λ (u : Window). count_of T u runs ++ counts_of T (returned T u runs) cs) window-round
      ∙ ap₂ (λ (l : List ℕ) (u : Window). l ++ counts_of T u cs) one-count window-run

-- ROUND AFTER ROUND

module _ (T : Table) (sh : Shape) (K : layer_edges T sh.height sh.distance ≡ edges_in sh) (s : List ℕ) (b : Bytes s) (size : ℕ) where
  followed-stop : (l : Line) (w : Window) (at : ℕ) → w.shape ≡ sh → at ≤ length s → (l ≡ finished → at ≡ length s) → Followed T s sh w at (stop l w at)
  unfolding all_bytes calls_of receipts_of play counts_of
  followed-stop l w at same i e =
      record {
        rounds = [];
        results = [];
        rounds-fit = tt;
        results_fit = tt;
        each = refl;
        reads = refl;
        writes = refl;
        plays = λ before. ap (without_raw w) (sym (append-nil before));
        steps = refl;
        rests = λ h. h;
        shape = same;
        inside = i;
        whole = e;
      }

  followed-more : (w : Window) (at : ℕ) (bytes : List ℕ) (v : Window) (next : ℕ) (r : Rounds) → w.shape ≡ sh → ByCalls T s w at bytes v next
      → Followed T s sh v next r → Followed T s sh w at (after bytes r)
  unfolding all_bytes calls_of receipts_of
  followed-more w at bytes v next r same p f =
      let x = by-sheet T s w at bytes v next p b in
      let o = result_by T s w at bytes v next p in
      record {
        rounds = p.sheet ∷ f.rounds;
        results = o ∷ f.results;
        rounds-fit = (record { size = x.size ∙ ap detectors_in same; bits = x.bits }, f.rounds-fit);
        results_fit = (by_fits T s w at bytes v next p sh same K, f.results_fit);
        each = ap suc f.each;
        reads = x.bytes ∙ ap (λ (l : List ℕ). listed p.sheet ++ l) f.reads ∙ sym (append_assoc (listed p.sheet) (all_bytes listed f.rounds) (drop r.next s));
        writes = ap₂ (λ (k l : List ℕ). k ++ l) p.makes f.writes;
        plays = λ before.
            turn-plays T sh K s w at bytes v next p same before (calls_of sh f.rounds)
            ∙ f.plays (before ++ (receipt_of p.sheet p.round ∷ []))
            ∙ ap (without_raw r.window) (append_snoc before (receipt_of p.sheet p.round) (receipts_of f.rounds f.results));
        steps = turn-counts T sh K s w at bytes v next p same (calls_of sh f.rounds) ∙ ap (λ (l : List ℕ). p.run.count ∷ l) f.steps;
        rests = λ h. f.rests (by-rest T s w at bytes v next p sh same);
        shape = f.shape;
        inside = f.inside;
        whole = f.whole;
      }

  followed-from : (n : ℕ) (w : Window) (at to : ℕ) → w.shape ≡ sh → at ≤ length s → length s - at < n → Followed T s sh w at (rounds_from T s size n w at to)
  unfolding rounds_from
  followed-from zero w at to same i l = absurd (omega arith)
  followed-from (suc n) w at to same i l = go (record_at T s size w at to) refl (λ v next j. followed-from n v next j)
    where
      go : (r : Recorded) → record_at T s size w at to ≡ r
          → ((v : Window) (next j : ℕ) → v.shape ≡ sh → next ≤ length s → length s - next < n → Followed T s sh v next (rounds_from T s size n v next j))
          → Followed T s sh w at (elim r [ wrote bytes v next ↦ after bytes (rounds_from T s size n v next (to + length bytes)) | stopped o ↦ stop o w at ])
      go (stopped o) e on = followed-stop o w at same i (λ k. finished-end T s w at size to i (e ∙ ap stopped k))
      go (wrote bytes v next) e on =
          let p = by-calls T s size w at to bytes v next e in
          let x = by-sheet T s w at bytes v next p b in
          followed-more w at bytes v next (rounds_from T s size n v next (to + length bytes)) same p
          (on v next (to + length bytes) (by_shape T s w at bytes v next p sh same) x.inside (omega (arith, x.forward, x.inside)))

  pub followed : (w : Window) (at to : ℕ) → w.shape ≡ sh → at ≤ length s → Followed T s sh w at (rounds T s size w at to)
  followed w at to same i = followed-from (length s + 1) w at to same i (omega arith)
