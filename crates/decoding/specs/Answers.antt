-- What the calls of a session answer and leave, refused ones too. Assumes nothing.
use Rattle.std.specs.Prelude.{ℕ, ◌+◌, List, ◌++◌, length, drop, Result, Ok, Err}
use Rattle.refusal.specs.Answer.{code_of}
use Rattle.refusal.specs.Writing.{laid}
use Rattle.steps.specs.Steps.{Table}
use Rattle.window.specs.declared.Window.{Window}
use Rattle.decoding.specs.Decoding.{Line, finished, spent, turned_back, Recorded, wrote, stopped, record_at, rounds, Decoded, decoded}
use Rattle.decoding.specs.declared.Ending.{Ending}
use Rattle.decoding.specs.declared.Ending.TheVariants as ending

-- how a decoding ended
abbrev pub line_of : Ending → Line
line_of ending.Finished = finished
line_of ending.Spent = spent
line_of (ending.Refused f) = turned_back (code_of f)

-- ONE RECORD

-- the offsets behind the round and behind its record, or how the decoding ended
pub data RecordAnswer : Type 0 where
  to : (next behind : ℕ) → RecordAnswer
  over : Line → RecordAnswer

abbrev pub record_answer : Result (ℕ × ℕ) Ending → RecordAnswer
record_answer (Ok r) = to r.0 r.1
record_answer (Err e) = over (line_of e)

-- the answer, the window and the buffer
pub record RecordReturned : Type 0 where
  pub answer : RecordAnswer
  pub window : Window
  pub buffer : List ℕ

abbrev pub record_returned : RecordAnswer → Window → List ℕ → RecordReturned
record_returned a w buffer = record { answer = a; window = w; buffer = buffer }

-- the record stands at the offset; what ends leaves everything as it was
abbrev pub recorded_leaves : Recorded → Window → List ℕ → ℕ → RecordReturned
recorded_leaves (wrote bytes v next) w old at = record_returned (to next (at + length bytes)) v (laid old at bytes)
recorded_leaves (stopped l) w old at = record_returned (over l) w old

abbrev pub record_leaves : Table → List ℕ → Window → ℕ → List ℕ → ℕ → RecordReturned
record_leaves T s w at old behind = recorded_leaves (record_at T s (length old) w at behind) w old behind

-- ROUND AFTER ROUND

-- how it ended, with which window and at which offset, the offset behind what was written, and the buffer
pub record RoundsReturned : Type 0 where
  pub line : Line
  pub window : Window
  pub next : ℕ
  pub behind : ℕ
  pub buffer : List ℕ

abbrev pub rounds_returned : Line → Window → ℕ → ℕ → List ℕ → RoundsReturned
rounds_returned l w next behind buffer = record { line = l; window = w; next = next; behind = behind; buffer = buffer }

-- the records stand at the offset, and every other byte is as it was
abbrev pub rounds_leave : Table → List ℕ → Window → ℕ → List ℕ → ℕ → RoundsReturned
rounds_leave T s w at old behind =
    let r = rounds T s (length old) w at behind in
    rounds_returned r.line r.window r.next (behind + length r.output) (laid old behind r.output)

-- THE WHOLE STREAM

-- how it ended, the bytes written, and the buffer
pub record DecodeReturned : Type 0 where
  pub line : Line
  pub count : ℕ
  pub buffer : List ℕ

abbrev pub decode_returned : Line → ℕ → List ℕ → DecodeReturned
decode_returned l n buffer = record { line = l; count = n; buffer = buffer }

-- the output at the front of the buffer, and every other byte as it was
abbrev pub output_leaves : Decoded → List ℕ → DecodeReturned
output_leaves r old = decode_returned r.line (length r.output) (r.output ++ drop (length r.output) old)

abbrev pub decode_leaves : List ℕ → List ℕ → DecodeReturned
decode_leaves s old = output_leaves (decoded s (length old)) old
