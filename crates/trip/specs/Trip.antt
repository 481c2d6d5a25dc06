-- Streams of any kind of record, there and back: what is written is read, and what is read is written so. Assumes nothing.
use Prim.Native.Nat.{ℕ, zero, suc, ◌+◌, ◌≤◌, ◌<◌}
use native.Mathlib.Omega.{arith}
use Rattle.std.specs.Prelude.{◌≡◌, drop}
use Rattle.std.proofs.Math.Path.{refl, sym, ap, subst₂}
use Rattle.std.proofs.Common.{◌∙◌, drop_of_length-le}
use mathlib.Core.List.{List, [], ◌∷◌, ◌++◌}
use Rattle.std.proofs.Math.ListN.{length, length-append, length-drop}
use Rattle.shape.specs.Sizes.{IsShape}
use Rattle.refusal.specs.Answer.{Answer, done, ended, refused, refused_at, and_then}
use Rattle.refusal.specs.Done.{goes_on_lem, Went, went, never}
use Rattle.refusal.specs.Ends.{NoEnd, no_end_lem, no-end-then}
use Rattle.refusal.specs.Bytes.{Bytes, part-inside, at-end}
use Rattle.refusal.specs.Filling.{drop-part}
use Rattle.shape.specs.declared.Shape.{Shape}
use Rattle.record.specs.Records.{header, header_at}
use Rattle.trip.specs.Streams.{Stream, all_bytes, records_at, stream_of, bytes_of}
use Rattle.trip.specs.Fits.{Each, Fits}
use Rattle.record.proofs.Laws.{length-header}
use Rattle.trip.specs.Header.{header-reads, HeaderWrites, header-writes, header-no-end}

-- what a record that is read tells of the bytes
pub record RecordWrites {A : Type 0} (write : A → List ℕ) (s : List ℕ) (at : ℕ) (r : A) (next : ℕ) : Type 0 where
  pub bytes : drop at s ≡ write r ++ drop next s
  pub forward : at < next
  pub inside : next ≤ length s

-- records that go there and back one by one, each of a byte at least
pub record Trips {A : Type 0} (read : List ℕ → Shape → ℕ → Answer A) (write : A → List ℕ) (fits : Shape → A → Type 0) : Type 0 where
  pub reads : (s : List ℕ) (sh : Shape) (at : ℕ) (r : A) (rest : List ℕ) → IsShape sh → fits sh r → drop at s ≡ write r ++ rest
      → read s sh at ≡ done r (at + length (write r))
  pub writes : (s : List ℕ) (sh : Shape) (at : ℕ) (r : A) (next : ℕ) → Bytes s → read s sh at ≡ done r next → RecordWrites write s at r next × fits sh r
  pub some : (r : A) → 0 < length (write r)

-- a kind of record: besides, reading ends exactly where no bytes are left
pub record Kind {A : Type 0} (read : List ℕ → Shape → ℕ → Answer A) (write : A → List ℕ) (fits : Shape → A → Type 0) : Type 0 where
  pub trips : Trips read write fits
  pub ends : (s : List ℕ) (sh : Shape) (at : ℕ) → length s ≤ at → read s sh at ≡ ended
  pub only-at-end : (s : List ℕ) (sh : Shape) (at : ℕ) → read s sh at ≡ ended → length s ≤ at

-- READING BY ITS STEPS

module _ {A : Type 0} where
  -- what is done with the other records, with a record, with all records, and with the header
  abbrev pub on_more : A → List A → ℕ → Answer (List A)
  on_more r rs end = done (r ∷ rs) end

  abbrev pub on_record : (ℕ → Answer A) → ℕ → ℕ → Answer A → Answer (List A)
  on_record read n at a =
      elim a [
        | done r next ↦ and_then (records_at read n next) (on_more r)
        | ended ↦ done [] at
        | refused e ↦ refused e
        | refused_at e o ↦ refused_at e o
      ]

  pub records-steps : (read : ℕ → Answer A) (n at : ℕ) → records_at read (suc n) at ≡ on_record read n at (read at)
  unfolding records_at
  records-steps read n at = refl

  abbrev pub on_records : Shape → List A → ℕ → Answer (Stream A)
  on_records sh rs end = done (record { shape = sh; records = rs }) end

  abbrev pub on_header : (List ℕ → Shape → ℕ → Answer A) → List ℕ → Shape → ℕ → Answer (Stream A)
  on_header read s sh next = and_then (records_at (read s sh) (length s) next) (on_records sh)

  pub stream-steps : (read : List ℕ → Shape → ℕ → Answer A) (s : List ℕ) → stream_of read s ≡ and_then (header_at s 0) (on_header read s)
  unfolding stream_of
  stream-steps read s = refl

-- what records that are read to the end tell of the bytes
record RecordsWrite {A : Type 0} (write : A → List ℕ) (fits : Shape → A → Type 0) (s : List ℕ) (sh : Shape) (at : ℕ) (rs : List A) (end : ℕ) : Type 0 where
  bytes : drop at s ≡ all_bytes write rs
  right : Each (fits sh) rs
  whole : end ≡ length s

module _ {A : Type 0} (read : List ℕ → Shape → ℕ → Answer A) (write : A → List ℕ) (fits : Shape → A → Type 0) (kind : Kind read write fits) where
  -- WRITTEN, THEN READ

  records-some : (rs : List A) → length rs ≤ length (all_bytes write rs)
  unfolding all_bytes
  records-some [] = omega arith
  records-some (r ∷ rs) = let h = kind.trips.some r in let l = records-some rs in simp length-append (omega arith)

  records-read : (s : List ℕ) (sh : Shape) → IsShape sh → (n : ℕ) (rs : List A) (at : ℕ) → length rs < n → at ≤ length s → Each (fits sh) rs
      → drop at s ≡ all_bytes write rs → records_at (read s sh) n at ≡ done rs (length s)
  unfolding all_bytes
  records-read s sh range zero rs at h l f e = absurd (omega arith)
  records-read s sh range (suc n) [] at h l f e =
      let end : at ≡ length s = at-end s at l e in
      records-steps (read s sh) n at
      ∙ ap (on_record (read s sh) n at) (kind.ends s sh at (omega arith))
      ∙ ap (λ (i : ℕ). done [] i) end
  records-read s sh range (suc n) (r ∷ rs) at h l f e =
      records-steps (read s sh) n at
      ∙ ap (on_record (read s sh) n at) (kind.trips.reads s sh at r (all_bytes write rs) range f.0 e)
      ∙ goes_on_lem (on_more r)
      (records-read s sh range n rs (at + length (write r)) (omega arith) (part-inside s at (write r) (all_bytes write rs) (kind.trips.some r) e) f.1
      (drop-part s at (write r) (all_bytes write rs) e))

  pub stream-reads : (t : Stream A) → Fits fits t → stream_of read (bytes_of write t) ≡ done t (length (bytes_of write t))
  unfolding bytes_of
  stream-reads t f =
      let sh : Shape = t.shape in
      let bytes : List ℕ = all_bytes write t.records in
      let s : List ℕ = header sh ++ bytes in
      let fuel : length t.records < length s = let h = length-header sh in let l = records-some t.records in simp length-append (omega arith) in
      stream-steps read s
      ∙ goes_on_lem (on_header read s) (header-reads s 0 sh bytes f.shape refl)
      ∙ goes_on_lem (on_records sh) (records-read s sh f.shape (length s) t.records (0 + length (header sh)) fuel (part-inside s 0 (header sh) bytes (length-header sh) refl)
      f.records (drop-part s 0 (header sh) bytes refl))

  -- as many records can be read as there are bytes, so that a stream is done or refused, and never cut short
  records-enough : (s : List ℕ) (sh : Shape) → Bytes s → (n at : ℕ) → at ≤ length s → length s < n + at → NoEnd (records_at (read s sh) n at)
  unfolding records_at
  records-enough s sh b zero at l h = absurd (omega arith)
  records-enough s sh b (suc n) at l h = go (read s sh at) refl (records-enough s sh b n)
    where
      go : (a : Answer A) → read s sh at ≡ a → ((next : ℕ) → next ≤ length s → length s < n + next → NoEnd (records_at (read s sh) n next)) → NoEnd (on_record (read s sh) n at a)
      go (done r next) q others =
          let w = (kind.trips.writes s sh at r next b q).0 in
          no-end-then (records_at (read s sh) n next) (on_more r) (others next w.inside (omega (arith, w.forward))) (λ rs end. tt)
      go ended q others = tt
      go (refused i) q others = tt
      go (refused_at i o) q others = tt

  pub stream-no-end : (s : List ℕ) → Bytes s → NoEnd (stream_of read s)
  unfolding stream_of
  stream-no-end s b = go (header_at s 0) refl
    where
      go : (a : Answer Shape) → header_at s 0 ≡ a → NoEnd (and_then a (on_header read s))
      go (done sh next) e =
          let w = header-writes s 0 sh next b e in
          let some : length s ≡ length (header sh) + length (drop next s) = ap length w.bytes ∙ length-append (header sh) (drop next s) in
          let long = length-drop next s in
          let h = length-header sh in
          no-end-then (records_at (read s sh) (length s) next) (on_records sh) (records-enough s sh b (length s) next w.inside (omega (arith, w.inside))) (λ rs end. tt)
      go ended e = no_end_lem (header-no-end s 0) e
      go (refused i) e = tt
      go (refused_at i o) e = tt

  -- READ, THEN WRITTEN

  records-write : (s : List ℕ) (sh : Shape) → Bytes s → (n at : ℕ) (rs : List A) (end : ℕ) → at ≤ length s → records_at (read s sh) n at ≡ done rs end
      → RecordsWrite write fits s sh at rs end
  unfolding records_at all_bytes
  records-write s sh b zero at rs end l e = absurd (never e refl)
  records-write s sh b (suc n) at rs end l e = go (read s sh at) refl (records-write s sh b n)
    where
      step : (a : Answer A) → read s sh at ≡ a → on_record (read s sh) n at a ≡ done rs end
      step a q = sym (records-steps (read s sh) n at ∙ ap (on_record (read s sh) n at) q) ∙ e

      go : (a : Answer A) → read s sh at ≡ a
          → ((at : ℕ) (rs : List A) (end : ℕ) → at ≤ length s → records_at (read s sh) n at ≡ done rs end → RecordsWrite write fits s sh at rs end)
          → RecordsWrite write fits s sh at rs end
      go (done r next) q others =
          let w = kind.trips.writes s sh at r next b q in
          let g : Went (records_at (read s sh) n next) (on_more r) rs end = went _ _ _ _ (step (done r next) q) in
          let o : RecordsWrite write fits s sh next g.value g.next = others next g.value g.next w.0.inside g.before in
          let same : r ∷ g.value ≡ rs = cc g.after in
          let last : g.next ≡ end = cc g.after in
          subst₂ (λ (x : List A) (i : ℕ). RecordsWrite write fits s sh at x i) same last
          (record { bytes = w.0.bytes ∙ ap (λ (l : List ℕ). write r ++ l) o.bytes; right = (w.1, o.right); whole = o.whole })
      go ended q others =
          let p : length s ≤ at = kind.only-at-end s sh at q in
          let d : ◌≡◌ {A = Answer (List A)} (done [] at) (done rs end) = step ended q in
          let same : [] ≡ rs = cc in
          let last : at ≡ end = cc in
          subst₂ (λ (x : List A) (i : ℕ). RecordsWrite write fits s sh at x i) same last
          (record { bytes = drop_of_length-le s p; right = tt; whole = omega arith })
      go (refused i) q others = absurd (never (step (refused i) q) refl)
      go (refused_at i o) q others = absurd (never (step (refused_at i o) q) refl)

  pub stream-writes : (s : List ℕ) (t : Stream A) (end : ℕ) → Bytes s → stream_of read s ≡ done t end → (bytes_of write t ≡ s) × Fits fits t × (end ≡ length s)
  unfolding bytes_of
  stream-writes s t end b e =
      let g : Went (header_at s 0) (on_header read s) t end = went _ _ _ _ (sym (stream-steps read s) ∙ e) in
      let sh : Shape = g.value in
      let h : HeaderWrites s 0 sh g.next = header-writes s 0 sh g.next b g.before in
      let g' : Went (records_at (read s sh) (length s) g.next) (on_records sh) t end = went _ _ _ _ g.after in
      let r : RecordsWrite write fits s sh g.next g'.value g'.next = records-write s sh b (length s) g.next g'.value g'.next h.inside g'.before in
      let o : Stream A = record { shape = sh; records = g'.value } in
      let same : o ≡ t = cc g'.after in
      let last : g'.next ≡ end = cc g'.after in
      subst₂ (λ (x : Stream A) (i : ℕ). (bytes_of write x ≡ s) × Fits fits x × (i ≡ length s)) same last
      (sym (h.bytes ∙ ap (λ (l : List ℕ). header sh ++ l) r.bytes), record { shape = h.range; records = r.right }, r.whole)
