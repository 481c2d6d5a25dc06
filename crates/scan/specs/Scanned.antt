-- What a whole stream comes to: its shape, and how many rounds it has. Assumes nothing.
use Rattle.std.specs.Prelude.{ℕ, ◌+◌, Bool, false, List, ltb, length, Result, Ok, Err}
use Rattle.refusal.specs.Answer.{Answer, done, turned, without_value, and_then}
use Rattle.refusal.specs.declared.Refusal.{Refusal}
use Rattle.shape.specs.declared.Shape.{Shape}
use Rattle.trip.specs.Streams.{Stream, records_at, round_of, result_of, input_of, results_of}

pub record Scanned : Type 0 where
  pub shape : Shape
  pub rounds : ℕ

abbrev pub scanned : {A : Type 0} → Answer (Stream A) → Answer Scanned
scanned a = and_then a (λ t end. done (record { shape = t.shape; rounds = length t.records }) end)

-- its reader's answer, for a stream of so many bytes: all of them were read
abbrev pub stream_answer : Result (Shape × ℕ) Refusal → ℕ → Answer Scanned
stream_answer (Ok r) len = done (record { shape = r.0; rounds = r.1 }) len
stream_answer (Err f) len = turned f

-- the records from an offset on, where so many were counted before
abbrev pub counted : {A : Type 0} → Shape → ℕ → Answer (List A) → Answer Scanned
counted sh n a = and_then a (λ rs end. done (record { shape = sh; rounds = n + length rs }) end)

abbrev pub counted_from : {A : Type 0} → (List ℕ → Shape → ℕ → Answer A) → List ℕ → Shape → ℕ → ℕ → Answer Scanned
counted_from read s sh at n = counted sh n (records_at (read s sh) (length s + 1) at)

-- BY THE KIND OF ROUND: one round, the rounds from an offset on, and the whole stream

pub data Round : Type 0 where
  InputRound : Round
  ResultRound : Round

abbrev pub passed_by : Round → List ℕ → Shape → ℕ → Answer (Unit {0})
passed_by InputRound s sh at = without_value (round_of s sh at)
passed_by ResultRound s sh at = without_value (result_of s sh at)

abbrev pub counted_by : Round → List ℕ → Shape → ℕ → ℕ → Answer Scanned
counted_by InputRound s sh at n = counted_from round_of s sh at n
counted_by ResultRound s sh at n = counted_from result_of s sh at n

abbrev pub scanned_by : Round → List ℕ → Answer Scanned
scanned_by InputRound s = scanned (input_of s)
scanned_by ResultRound s = scanned (results_of s)

-- ON THE WAY

-- what has been read behind the header
abbrev pub opening : Result (Shape × ℕ) Refusal → Result (Shape × ℕ) Refusal
opening (Ok r) = Ok (r.0, 0)
opening (Err f) = Err f

-- whether reading goes on, with so many bytes left
abbrev pub goes_on : Result (Shape × ℕ) Refusal → ℕ → Bool
goes_on (Ok r) left = ltb 0 left
goes_on (Err f) left = false

-- what the stream comes to, where so much has been read and the next round stands at an offset
abbrev pub ahead : Round → List ℕ → Result (Shape × ℕ) Refusal → ℕ → Answer Scanned
ahead k s (Ok r) at = counted_by k s r.0 at r.1
ahead k s (Err f) at = turned f
