-- The whole streams: a header, then one record a round, to the end. Assumes nothing.
use Rattle.std.specs.Prelude.{ℕ, zero, suc, List, [], ◌∷◌, ◌++◌, length}
use Rattle.refusal.specs.Answer.{Answer, done, ended, refused, refused_at, and_then}
use Rattle.list.specs.Sheet.{listed}
use Rattle.shape.specs.Sizes.{detectors_of, layer_edges_of}
use Rattle.shape.specs.declared.Shape.{Shape}
use Rattle.record.specs.Records.{header, header_at, round_at, Result, result, result_at}

-- the records of a kind one after another
unfoldable pub all_bytes : {A : Type 0} → (A → List ℕ) → List A → List ℕ
all_bytes write [] = []
all_bytes write (r ∷ rs) = write r ++ all_bytes write rs

-- records from an offset on, until no bytes are left; a record has a byte at least, so n is no bound where s has n bytes
unfoldable pub records_at : {A : Type 0} → (ℕ → Answer A) → ℕ → ℕ → Answer (List A)
records_at read zero at = ended
records_at read (suc n) at =
    elim (read at) [
      | done r next ↦ and_then (records_at read n next) (λ rs end. done (r ∷ rs) end)
      | ended ↦ done [] at
      | refused e ↦ refused e
      | refused_at e o ↦ refused_at e o
    ]

-- a shape and its records
pub record Stream (A : Type 0) : Type 0 where
  pub shape : Shape
  pub records : List A

-- a stream of records that are read and written by the shape's own reader and writer
unfoldable pub stream_of : {A : Type 0} → (List ℕ → Shape → ℕ → Answer A) → List ℕ → Answer (Stream A)
unfolding records_at
stream_of read s =
    and_then (header_at s 0) (λ sh next.
    and_then (records_at (read s sh) (length s) next) (λ rs end. done (record { shape = sh; records = rs }) end))

unfoldable pub bytes_of : {A : Type 0} → (A → List ℕ) → Stream A → List ℕ
unfolding all_bytes
bytes_of write t = header t.shape ++ all_bytes write t.records

-- THE INPUT STREAM

abbrev pub round_of : List ℕ → Shape → ℕ → Answer (List ℕ)
round_of s sh at = round_at s (detectors_of sh.height sh.distance) at

abbrev pub input_of : List ℕ → Answer (Stream (List ℕ))
input_of s = stream_of round_of s

abbrev pub input_bytes : Stream (List ℕ) → List ℕ
input_bytes t = bytes_of listed t

-- THE RESULT STREAM

abbrev pub result_of : List ℕ → Shape → ℕ → Answer Result
result_of s sh at = result_at s (layer_edges_of sh.model sh.height sh.distance) (detectors_of sh.height sh.distance) at

abbrev pub results_of : List ℕ → Answer (Stream Result)
results_of s = stream_of result_of s

abbrev pub result_bytes : Stream Result → List ℕ
result_bytes t = bytes_of result t
