-- The two kinds of round, of the input and of the result, each there and back by itself. Assumes nothing.
use Rattle.std.specs.Prelude.{ℕ, ◌+◌, ◌≤◌, ◌≡◌, refl, Bool, true, false, List, ◌++◌, ltb, length, drop}
use Rattle.std.proofs.Common.{arith, sym, ◌∙◌, ap, subst₂, append_assoc, length-append, ltb-true, ltb-false}
use Rattle.shape.specs.Sizes.{IsShape}
use Rattle.refusal.specs.Answer.{Answer, done, ended}
use Rattle.refusal.specs.Done.{Went, went, took}
use Rattle.refusal.specs.Ends.{NoEnd, no_end_lem, no-end-then}
use Rattle.refusal.specs.Bytes.{Bytes, part-inside}
use Rattle.refusal.specs.Filling.{drop-part}
use Rattle.number.specs.Number.{written, number_at, largest}
use Rattle.number.specs.Trip.{number-reads, number-writes, number-no-end}
use Rattle.list.specs.Sheet.{listed, list_at}
use Rattle.list.specs.Trip.{list-reads, ListWrites, list-writes, list-no-end}
use Rattle.list.specs.Laws.{length-listed}
use Rattle.shape.proofs.Ranges.{ranged}
use Rattle.shape.proofs.LawsSizes.{detectors-le, layer-le}
use Rattle.shape.specs.declared.Shape.{Shape}
use Rattle.record.specs.Records.{unless_ended, Result, result, result_from}
use Rattle.trip.specs.Streams.{round_of, result_of}
use Rattle.trip.specs.Fits.{edges_in, detectors_in, Entries, RoundFits, RecordFits}
use Rattle.record.specs.Laws.{on_steps, on_escapes, on_edges}
use Rattle.record.proofs.Laws.{at-end, before-end, result-steps, result-done, length-result}
use Rattle.trip.specs.Trip.{RecordWrites, Trips, Kind}
use Rattle.trip.specs.Kinds.{round_from}

-- AN END OR A RECORD

module _ {A : Type 0} (s : List ℕ) (at : ℕ) (a : Answer A) where
  ended-only : NoEnd a → unless_ended s at a ≡ ended → length s ≤ at
  ended-only h e = go (ltb at (length s)) refl
    where
      go : (b : Bool) → ltb at (length s) ≡ b → length s ≤ at
      go true p = absurd (no_end_lem h (sym (before-end s at a (ltb-true at (length s) p)) ∙ e))
      go false p = ltb-false at (length s) p

-- records that trip, and whose reader answers no end, are a kind once no bytes left is an end
kind : {A : Type 0} (read : List ℕ → Shape → ℕ → Answer A) (write : A → List ℕ) (fits : Shape → A → Type 0) → Trips read write fits
    → ((s : List ℕ) (sh : Shape) (at : ℕ) → NoEnd (read s sh at)) → Kind (λ s sh at. unless_ended s at (read s sh at)) write fits
kind read write fits trips no_end = record {
  trips = record {
    reads = λ s sh at r rest range f e.
        let l = trips.some r in
        let i = part-inside s at (write r) rest l e in
        before-end s at (read s sh at) (omega arith) ∙ trips.reads s sh at r rest range f e;
    writes = λ s sh at r next b e. trips.writes s sh at r next b (took (ltb at (length s)) (read s sh at) ended r next refl e).1;
    some = trips.some;
  };
  ends = λ s sh at h. at-end s at (read s sh at) h;
  only-at-end = λ s sh at e. ended-only s at (read s sh at) (no_end s sh at) e;
}

-- THE SIZES, which are numbers of the stream

module _ (sh : Shape) (range : IsShape sh) where
  detectors-small : detectors_in sh ≤ largest
  detectors-small = omega (arith, detectors-le sh.height sh.distance (ranged sh.height sh.distance range.sizes))

  edges-small : edges_in sh ≤ largest
  edges-small = omega (arith, layer-le sh.model sh.height sh.distance (ranged sh.height sh.distance range.sizes))

-- a list of entries that fit
entries-read : (s : List ℕ) (n at : ℕ) (xs rest : List ℕ) → n ≤ largest → Entries n xs → drop at s ≡ listed xs ++ rest
    → list_at s n at ≡ done xs (at + length (listed xs))
entries-read s n at xs rest small f e =
    ap (λ (i : ℕ). list_at s i at) (sym f.size) ∙ list-reads s at xs rest e f.bits (rw f.size small)

entries_fit : {s : List ℕ} {n at : ℕ} {xs : List ℕ} {next : ℕ} → ListWrites s n at xs next → Entries n xs
entries_fit w = record { size = w.size; bits = w.bits }

each-round : Trips round_from listed RoundFits
each-round = record {
  reads = λ s sh at r rest range f e. entries-read s (detectors_in sh) at r rest (detectors-small sh range) f e;
  writes = λ s sh at r next b e.
      let w = list-writes s (detectors_in sh) at r next b e in
      (record { bytes = w.bytes; forward = w.forward; inside = w.inside }, entries_fit w);
  some = λ r. (length-listed r).0;
}

pub round-kind : Kind round_of listed RoundFits
round-kind = kind round_from listed RoundFits each-round (λ s sh at. list-no-end s (detectors_in sh) at)

-- A ROUND OF THE RESULT

result-no-end : (s : List ℕ) (edges detectors at : ℕ) → NoEnd (result_from s edges detectors at)
unfolding result_from
result-no-end s edges detectors at =
    no-end-then (list_at s edges at) (on_edges s detectors) (list-no-end s edges at) (λ c next.
    no-end-then (list_at s detectors next) (on_escapes s c) (list-no-end s detectors next) (λ x last.
    no-end-then (number_at s last) (on_steps c x) (number-no-end s last) (λ n behind. tt)))

result-reads : (s : List ℕ) (sh : Shape) (at : ℕ) (r : Result) (rest : List ℕ) → IsShape sh → RecordFits sh r → drop at s ≡ result r ++ rest
    → result_from s (edges_in sh) (detectors_in sh) at ≡ done r (at + length (result r))
unfolding result
result-reads s sh at r rest range f e =
    let a : List ℕ = listed r.edges in
    let b : List ℕ = listed r.escapes in
    let c : List ℕ = written r.steps in
    let e₁ : drop at s ≡ a ++ (b ++ (c ++ rest)) = e ∙ simp append_assoc in
    let e₂ : drop (at + length a) s ≡ b ++ (c ++ rest) = drop-part s at a (b ++ (c ++ rest)) e₁ in
    let e₃ : drop (at + length a + length b) s ≡ c ++ rest = drop-part s (at + length a) b (c ++ rest) e₂ in
    let behind : at + length a + length b + length c ≡ at + length (a ++ (b ++ c)) = simp length-append (omega arith) in
    result-done s (edges_in sh) (detectors_in sh) at r.edges (at + length a)
    (entries-read s _ at r.edges _ (edges-small sh range) f.edges e₁)
    r.escapes
    (at + length a + length b)
    (entries-read s _ (at + length a) r.escapes _ (detectors-small sh range) f.escapes e₂)
    r.steps
    (at + length a + length b + length c)
    (number-reads s (at + length a + length b) r.steps rest e₃ f.steps)
    ∙ ap (λ (i : ℕ). done r i) behind

result-writes : (s : List ℕ) (sh : Shape) (at : ℕ) (r : Result) (next : ℕ) → Bytes s
    → result_from s (edges_in sh) (detectors_in sh) at ≡ done r next
    → RecordWrites result s at r next × RecordFits sh r
unfolding result
result-writes s sh at r next b e =
    let edges : ℕ = edges_in sh in
    let detectors : ℕ = detectors_in sh in
    let g₁ : Went (list_at s edges at) (on_edges s detectors) r next = went _ _ _ _ (sym (result-steps s edges detectors at) ∙ e) in
    let g₂ : Went (list_at s detectors g₁.next) (on_escapes s g₁.value) r next = went _ _ _ _ g₁.after in
    let g₃ : Went (number_at s g₂.next) (on_steps g₁.value g₂.value) r next = went _ _ _ _ g₂.after in
    let w₁ = list-writes s edges at g₁.value g₁.next b g₁.before in
    let w₂ = list-writes s detectors g₁.next g₂.value g₂.next b g₂.before in
    let w₃ = number-writes s g₂.next g₃.value g₃.next b g₃.before in
    let o : Result = record { edges = g₁.value; escapes = g₂.value; steps = g₃.value } in
    let same : o ≡ r = cc g₃.after in
    let last : g₃.next ≡ next = cc g₃.after in
    let bytes : drop at s ≡ (listed g₁.value ++ (listed g₂.value ++ written g₃.value)) ++ drop g₃.next s =
    w₁.bytes
    ∙ ap (λ (l : List ℕ). listed g₁.value ++ l) (w₂.bytes ∙ ap (λ (l : List ℕ). listed g₂.value ++ l) w₃.bytes)
    ∙ sym (simp append_assoc) in
    subst₂ (λ (x : Result) (i : ℕ). RecordWrites result s at x i × RecordFits sh x) same last (
      record { bytes = bytes; forward = omega arith; inside = w₃.inside },
      record { edges = entries_fit w₁; escapes = entries_fit w₂; steps = w₃.small },
    )

pub result-kind : Kind result_of result RecordFits
result-kind =
    kind (λ s sh at. result_from s (edges_in sh) (detectors_in sh) at) result RecordFits
    (record { reads = result-reads; writes = result-writes; some = length-result })
    (λ s sh at. result-no-end s (edges_in sh) (detectors_in sh) at)
