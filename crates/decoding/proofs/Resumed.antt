-- A decoding that stopped can be resumed, with room as it was or more: so a stream decoded piece by piece, as the program does it, is decoded
-- as in one piece. Assumes nothing.
use Prim.Native.Nat.{ℕ, zero, suc, ◌+◌, ◌-◌, ◌≤◌, ◌<◌}
use Rattle.std.proofs.Common.{add-zero, arith, sym, ◌∙◌}
use Rattle.std.specs.Prelude.{◌≡◌}
use Rattle.std.proofs.Math.Path.{refl, ap}
use mathlib.Core.List.{List, ◌++◌, append_assoc}
use Rattle.std.proofs.Math.ListN.{length, length-append}
use Rattle.refusal.specs.Bytes.{Bytes}
use Rattle.steps.specs.Steps.{Table}
use Rattle.window.specs.declared.Window.{Window}
use Rattle.decoding.specs.Decoding.{Line, finished, Recorded, wrote, stopped, record_at, Rounds, stop, after, rounds_from, rounds}
use Rattle.decoding.proofs.LawsDecoding.{record-forward, record-wider, rounds-more}

module _ (T : Table) (s : List ℕ) (b : Bytes s) (size size' : ℕ) where
  -- the rounds into the wider buffer: those that were decoded into the first, and then those from where that stopped
  abbrev Resumed : Rounds → Window → ℕ → ℕ → Type 0
  Resumed r w at to' = rounds T s size' w at to' ≡ after r.output (rounds T s size' r.window r.next (to' + length r.output))

  at_once : (l : Line) (w : Window) (at to' : ℕ) → Resumed (stop l w at) w at to'
  at_once l w at to' = sym (ap (λ (i : ℕ). rounds T s size' w at i) (add-zero to'))

  from : (n : ℕ) (w : Window) (at to to' : ℕ) → size - to ≤ size' - to' → to' ≤ size' → Resumed (rounds_from T s size n w at to) w at to'
  unfolding rounds_from
  from zero w at to to' l m = at_once finished w at to'
  from (suc n) w at to to' l m = go (record_at T s size w at to) refl (λ v next i j. from n v next i j)
    where
      go : (r : Recorded) → record_at T s size w at to ≡ r
          → ((v : Window) (next i j : ℕ) → size - i ≤ size' - j → j ≤ size' → Resumed (rounds_from T s size n v next i) v next j)
          → Resumed (elim r [ wrote bytes v next ↦ after bytes (rounds_from T s size n v next (to + length bytes)) | stopped o ↦ stop o w at ]) w at to'
      go (stopped o) e on = at_once o w at to'
      go (wrote bytes v next) e on =
          let f = record-forward T s size w at to bytes v next e b in
          let g = record-wider T s size w at to bytes v next e size' to' l m in
          let f' = record-forward T s size' w at to' bytes v next g b in
          let r = rounds_from T s size n v next (to + length bytes) in
          let x = rounds T s size' r.window r.next (to' + length bytes + length r.output) in
          let k : to' + length bytes + length r.output ≡ to' + length (bytes ++ r.output) = simp length-append (omega arith) in
          rounds-more T s size' b w at to' bytes v next g
          ∙ ap (after bytes) (on v next (to + length bytes) (to' + length bytes) (omega (arith, l, f.room)) f'.room)
          ∙ ap (λ (o : List ℕ). record { output = o; line = x.line; window = x.window; next = x.next }) (sym (append_assoc bytes r.output x.output))
          ∙ ap (λ (i : ℕ). after (bytes ++ r.output) (rounds T s size' r.window r.next i)) k

  pub resumed : (w : Window) (at to to' : ℕ) → size - to ≤ size' - to' → to' ≤ size' → Resumed (rounds T s size w at to) w at to'
  resumed w at to to' l m = from (length s + 1) w at to to' l m

-- what is decoded was read: the offset never goes back, and goes forward with the first record
module _ (T : Table) (s : List ℕ) (b : Bytes s) (size : ℕ) where
  pub record Onward (at : ℕ) (r : Rounds) : Type 0 where
    pub still : at ≤ r.next
    pub inside : at ≤ length s → r.next ≤ length s
    pub forward : 0 < length r.output → (at < r.next) × (r.next ≤ length s)

  onward-stop : (l : Line) (w : Window) (at : ℕ) → Onward at (stop l w at)
  onward-stop l w at = record { still = omega arith; inside = λ i. i; forward = λ o. absurd (omega arith) }

  onward-from : (n : ℕ) (w : Window) (at to : ℕ) → Onward at (rounds_from T s size n w at to)
  unfolding rounds_from
  onward-from zero w at to = onward-stop finished w at
  onward-from (suc n) w at to = go (record_at T s size w at to) refl (λ v next i. onward-from n v next i)
    where
      go : (r : Recorded) → record_at T s size w at to ≡ r
          → ((v : Window) (next i : ℕ) → Onward next (rounds_from T s size n v next i))
          → Onward at (elim r [ wrote bytes v next ↦ after bytes (rounds_from T s size n v next (to + length bytes)) | stopped o ↦ stop o w at ])
      go (stopped o) e on = onward-stop o w at
      go (wrote bytes v next) e on =
          let f = record-forward T s size w at to bytes v next e b in
          let o = on v next (to + length bytes) in
          record {
            still = omega (arith, f.forward, o.still);
            inside = λ i. o.inside f.inside;
            forward = λ p. (omega (arith, f.forward, o.still), o.inside f.inside);
          }

  pub onward : (w : Window) (at to : ℕ) → Onward at (rounds T s size w at to)
  onward w at to = onward-from (length s + 1) w at to
