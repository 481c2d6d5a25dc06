-- Laws of a whole stream of any kind of record, counted: its header, then a record, the end or a refusal at an offset. Assumes nothing.
use Rattle.std.specs.Prelude.{ℕ, zero, suc, ◌+◌, ◌≤◌, ◌<◌, ◌≡◌, refl, List, ◌∷◌, length, drop}
use Rattle.std.proofs.Common.{add-zero, zero-add, add-one, arith, sym, ◌∙◌, ap, length-append, length-drop}
use Rattle.refusal.specs.Answer.{Answer, done, ended, refused, refused_at, Code, by_code, turned, without_value, and_then}
use Rattle.refusal.specs.Bytes.{Bytes}
use Rattle.refusal.specs.Laws.{each, done_on, ended-back, turned-back}
use Rattle.refusal.specs.declared.Refusal.{Refusal}
use Rattle.list.specs.Sheet.{listed}
use Rattle.shape.specs.declared.Shape.{Shape}
use Rattle.record.specs.Records.{header, header_at, result}
use Rattle.record.proofs.Laws.{length-header}
use Rattle.trip.specs.Streams.{records_at, stream_of, round_of, result_of}
use Rattle.trip.specs.Fits.{RoundFits, RecordFits}
use Rattle.trip.specs.Header.{HeaderWrites, header-writes}
use Rattle.trip.specs.Trip.{Kind, on_more, on_record, records-steps, on_records, on_header, stream-steps}
use Rattle.trip.proofs.RoundKinds.{round-kind, result-kind}
use Rattle.scan.specs.Scanned.{Round, InputRound, ResultRound, Scanned, scanned, counted, counted_from, passed_by, counted_by, scanned_by}

-- a record that is passed: the count goes on behind it
pub record CountsOn (from : List ℕ → Shape → ℕ → ℕ → Answer Scanned) (s : List ℕ) (sh : Shape) (at next n : ℕ) : Type 0 where
  pub forward : at < next
  pub inside : next ≤ length s
  pub same : from s sh at n ≡ from s sh next (n + 1)

-- the header is read: the count begins behind it
pub record Headed (from : List ℕ → Shape → ℕ → ℕ → Answer Scanned) (whole : List ℕ → Answer Scanned) (s : List ℕ) (sh : Shape) (next : ℕ) : Type 0 where
  pub writes : HeaderWrites s 0 sh next
  pub same : whole s ≡ from s sh next 0

-- how one record, the records from an offset on and the whole stream hang together
pub record Counts (one : List ℕ → Shape → ℕ → Answer (Unit {0})) (from : List ℕ → Shape → ℕ → ℕ → Answer Scanned) (whole : List ℕ → Answer Scanned) : Type 0 where
  pub on : (s : List ℕ) (sh : Shape) (at n next : ℕ) → Bytes s → one s sh at ≡ done tt next → CountsOn from s sh at next n
  pub refuses : (s : List ℕ) (sh : Shape) (at n : ℕ) (f : Refusal) → one s sh at ≡ turned f → from s sh at n ≡ turned f
  pub only-at-end : (s : List ℕ) (sh : Shape) (at : ℕ) → one s sh at ≡ ended → length s ≤ at
  pub end : (s : List ℕ) (sh : Shape) (n : ℕ) → from s sh (length s) n ≡ done (record { shape = sh; rounds = n }) (length s)
  pub headed : (s : List ℕ) (sh : Shape) (next : ℕ) → Bytes s → header_at s 0 ≡ done sh next → Headed from whole s sh next
  pub unheaded : (s : List ℕ) (f : Refusal) → header_at s 0 ≡ turned f → whole s ≡ turned f

module _ {A : Type 0} where
  -- a record more is one more
  counted-more : (sh : Shape) (n : ℕ) (r : A) (a : Answer (List A)) → counted sh n (and_then a (on_more r)) ≡ counted sh (n + 1) a
  counted-more sh n r (done rs end) =
      let e : n + length (r ∷ rs) ≡ n + 1 + length rs = omega arith in
      ap (λ (i : ℕ). done (record { shape = sh; rounds = i }) end) e
  counted-more sh n r ended = refl
  counted-more sh n r (refused e) = refl
  counted-more sh n r (refused_at e o) = refl

  counted-all : (sh : Shape) (a : Answer (List A)) → scanned (and_then a (on_records sh)) ≡ counted sh 0 a
  counted-all sh (done rs end) = sym (ap (λ (i : ℕ). done (record { shape = sh; rounds = i }) end) (zero-add (length rs)))
  counted-all sh ended = refl
  counted-all sh (refused e) = refl
  counted-all sh (refused_at e o) = refl

module _ {A : Type 0} (read : List ℕ → Shape → ℕ → Answer A) (write : A → List ℕ) (fits : Shape → A → Type 0) (kind : Kind read write fits) (s : List ℕ) where
  -- THE RECORDS from an offset on

  module _ (sh : Shape) where
    records-as : (n at : ℕ) (a : Answer A) → read s sh at ≡ a → records_at (read s sh) (suc n) at ≡ on_record (read s sh) n at a
    records-as n at a e = records-steps (read s sh) n at ∙ ap (on_record (read s sh) n at) e

    -- at an offset, with so many counted before
    counted-as : (at n : ℕ) (a : Answer A) → read s sh at ≡ a → counted_from read s sh at n ≡ counted sh n (on_record (read s sh) (length s) at a)
    counted-as at n a e =
        ap (λ (k : ℕ). counted sh n (records_at (read s sh) k at)) (add-one (length s)) ∙ ap (counted sh n) (records-as (length s) at a e)

    counted-end : (n : ℕ) → counted_from read s sh (length s) n ≡ done (record { shape = sh; rounds = n }) (length s)
    counted-end n =
        counted-as (length s) n ended (kind.ends s sh (length s) (omega arith))
        ∙ ap (λ (i : ℕ). done (record { shape = sh; rounds = i }) (length s)) (add-zero n)

    counted-turned : (at n : ℕ) (f : Refusal) → read s sh at ≡ turned f → counted_from read s sh at n ≡ turned f
    counted-turned at n f e =
        counted-as at n (turned f) e
        ∙ each (λ (k : Code). counted sh n (on_record (read s sh) (length s) at (by_code k)) ≡ by_code k) (λ i. refl) (λ i o. refl) f

    module _ (b : Bytes s) where
      -- more than the bytes left are enough
      records-same : (n m at : ℕ) → at ≤ length s → length s < n + at → length s < m + at
          → records_at (read s sh) n at ≡ records_at (read s sh) m at
      records-same zero m at l h k = absurd (omega arith)
      records-same (suc n) zero at l h k = absurd (omega arith)
      records-same (suc n) (suc m) at l h k = go (read s sh at) refl (records-same n m)
        where
          go : (a : Answer A) → read s sh at ≡ a
              → ((next : ℕ) → next ≤ length s → length s < n + next → length s < m + next → records_at (read s sh) n next ≡ records_at (read s sh) m next)
              → records_at (read s sh) (suc n) at ≡ records_at (read s sh) (suc m) at
          go (done r next) e on =
              let w = (kind.trips.writes s sh at r next b e).0 in
              records-as n at (done r next) e
              ∙ ap (λ (a : Answer (List A)). and_then a (on_more r)) (on next w.inside (omega (arith, w.forward)) (omega (arith, w.forward)))
              ∙ sym (records-as m at (done r next) e)
          go ended e on = records-as n at ended e ∙ sym (records-as m at ended e)
          go (refused i) e on = records-as n at (refused i) e ∙ sym (records-as m at (refused i) e)
          go (refused_at i o) e on = records-as n at (refused_at i o) e ∙ sym (records-as m at (refused_at i o) e)

      counted-on : (at n : ℕ) (r : A) (next : ℕ) → read s sh at ≡ done r next → CountsOn (counted_from read) s sh at next n
      counted-on at n r next e =
          let w = (kind.trips.writes s sh at r next b e).0 in
          record {
            forward = w.forward;
            inside = w.inside;
            same =
                counted-as at n (done r next) e
                ∙ counted-more sh n r (records_at (read s sh) (length s) next)
                ∙ ap (counted sh (n + 1)) (records-same (length s) (length s + 1) next w.inside (omega (arith, w.forward)) (omega arith));
          }

  -- THE WHOLE STREAM

  scanned-turned : (f : Refusal) → header_at s 0 ≡ turned f → scanned (stream_of read s) ≡ turned f
  scanned-turned f e =
      ap scanned (stream-steps read s)
      ∙ ap (λ (a : Answer Shape). scanned (and_then a (on_header read s))) e
      ∙ each (λ (k : Code). scanned (and_then (by_code k) (on_header read s)) ≡ by_code k) (λ n. refl) (λ n at. refl) f

  -- its records are counted from behind the header on, which has a byte at least
  scanned-on : Bytes s → (sh : Shape) (next : ℕ) → header_at s 0 ≡ done sh next → Headed (counted_from read) (λ t. scanned (stream_of read t)) s sh next
  scanned-on b sh next e =
      let w = header-writes s 0 sh next b e in
      let some : length s ≡ length (header sh) + length (drop next s) = ap length w.bytes ∙ length-append (header sh) (drop next s) in
      let long = length-drop next s in
      let h = length-header sh in
      record {
        writes = w;
        same =
            ap scanned (stream-steps read s)
            ∙ ap (λ (a : Answer Shape). scanned (and_then a (on_header read s))) e
            ∙ counted-all sh (records_at (read s sh) (length s) next)
            ∙ ap (counted sh 0) (records-same sh b (length s) (length s + 1) next w.inside (omega (arith, w.inside)) (omega arith));
      }

counts_of_lem : {A : Type 0} (read : List ℕ → Shape → ℕ → Answer A) (write : A → List ℕ) (fits : Shape → A → Type 0) → Kind read write fits
    → Counts (λ s sh at. without_value (read s sh at)) (counted_from read) (λ s. scanned (stream_of read s))
counts_of_lem read write fits kind = record {
  on = λ s sh at n next b e. let w = done_on (read s sh at) next e in counted-on read write fits kind s sh b at n w.0 next w.1;
  refuses = λ s sh at n f e. counted-turned read write fits kind s sh at n f (turned-back (read s sh at) f e);
  only-at-end = λ s sh at e. kind.only-at-end s sh at (ended-back (read s sh at) e);
  end = λ s sh n. counted-end read write fits kind s sh n;
  headed = λ s sh next b e. scanned-on read write fits kind s b sh next e;
  unheaded = λ s f e. scanned-turned read write fits kind s f e;
}

pub counts : (k : Round) → Counts (passed_by k) (counted_by k) (scanned_by k)
counts InputRound = counts_of_lem round_of listed RoundFits round-kind
counts ResultRound = counts_of_lem result_of result RecordFits result-kind
