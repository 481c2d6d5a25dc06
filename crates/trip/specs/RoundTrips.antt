-- THE ROUND TRIPS: what is written reads back, and what is accepted is, written again, the same bytes. Assumes nothing.
use Rattle.std.specs.Prelude.{ℕ, ◌≡◌, List, length}
use Rattle.refusal.specs.Answer.{done, ended}
use Rattle.refusal.specs.Bytes.{Bytes}
use Rattle.record.specs.Records.{Result}
use Rattle.trip.specs.Streams.{Stream, input_of, input_bytes, results_of, result_bytes}
use Rattle.trip.specs.Fits.{InputFits, ResultFits}

pub record RoundTrips : Type 0 where
  -- a stream that fits, once written, reads back as itself, to the last byte
  pub input-reads : (t : Stream (List ℕ)) → InputFits t → input_of (input_bytes t) ≡ done t (length (input_bytes t))
  pub result-reads : (t : Stream Result) → ResultFits t → results_of (result_bytes t) ≡ done t (length (result_bytes t))
  -- what accepted bytes yield is, written again, the same bytes; it fits, and was read to the last byte
  pub input-writes : (s : List ℕ) (t : Stream (List ℕ)) (end : ℕ) → Bytes s → input_of s ≡ done t end → (input_bytes t ≡ s) × InputFits t × (end ≡ length s)
  pub result-writes : (s : List ℕ) (t : Stream Result) (end : ℕ) → Bytes s → results_of s ≡ done t end → (result_bytes t ≡ s) × ResultFits t × (end ≡ length s)
  -- a stream of bytes is done or refused: reading it never just stops
  pub input-no-end : (s : List ℕ) → Bytes s → input_of s ≡ ended → ⊥
  pub result-no-end : (s : List ℕ) → Bytes s → results_of s ≡ ended → ⊥
