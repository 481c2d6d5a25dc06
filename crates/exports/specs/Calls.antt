-- What each call for C answers and leaves: a record of what the caller sees, by the names of the header for C. Assumes nothing.
use Rattle.std.specs.Prelude.{ℕ, List}
use Rattle.refusal.specs.Answer.{next_or}
use Rattle.refusal.specs.Writing.{Buffered}
use Rattle.number.specs.Number.{number_at, write_number}
use Rattle.list.specs.Sheet.{read_list, write_list}
use Rattle.shape.specs.Sizes.{shape_by}
use Rattle.record.specs.Records.{header_at}
use Rattle.record.specs.Calls.{ResultBuffered, write_header, read_round, write_round, read_result, write_result, as_result}
use Rattle.trip.specs.Streams.{input_of, results_of}
use Rattle.scan.specs.Scanned.{scanned}
use Rattle.decoding.specs.Answers.{DecodeReturned, decode_leaves}
use Rattle.reply.specs.Reply.{Reply, replied, ValueOut, value_by, HeaderOut, header_by, ScanOut, scan_by, concluded}

-- NUMBERS AND LISTS

abbrev pub number_read : List ℕ → ℕ → ℕ → ℕ → ValueOut
number_read src at value place = value_by (number_at src at) value place

-- a call that leaves nothing but a buffer
pub record BufferOut : Type 0 where
  pub reply : Reply
  pub out : List ℕ

abbrev pub buffer_out : Reply → List ℕ → BufferOut
buffer_out r out = record { reply = r; out = out }

abbrev pub buffer_by : Buffered → ℕ → BufferOut
buffer_by l place = buffer_out (replied l.answer place) l.buffer

abbrev pub number_written : ℕ → List ℕ → ℕ → ℕ → BufferOut
number_written n out at place = buffer_by (write_number n out at) place

abbrev pub list_read : List ℕ → ℕ → List ℕ → ℕ → BufferOut
list_read src at out place = buffer_by (read_list src at out) place

abbrev pub list_written : List ℕ → List ℕ → ℕ → ℕ → BufferOut
list_written entries out at place = buffer_by (write_list entries out at) place

-- THE RECORDS OF BOTH STREAMS

-- a reader with the offset lent: it moves behind what was read, and stays where nothing was
pub record Taken (Out : Type 0) : Type 0 where
  pub out : Out
  pub at : ℕ

abbrev pub taken : {Out : Type 0} → Out → ℕ → Taken Out
taken out at = record { out = out; at = at }

-- the header
abbrev pub header_read : List ℕ → ℕ → ℕ → ℕ → ℕ → ℕ → HeaderOut
header_read src at height distance model place = header_by (header_at src at) height distance model place

abbrev pub header_taken : List ℕ → ℕ → ℕ → ℕ → ℕ → ℕ → Taken HeaderOut
header_taken src at height distance model place = taken (header_read src at height distance model place) (next_or (header_at src at) at)

abbrev pub header_written : ℕ → ℕ → ℕ → List ℕ → ℕ → ℕ → BufferOut
header_written height distance model out at place = buffer_by (write_header (shape_by height distance model) out at) place

-- a round of the input
pub record RoundOut : Type 0 where
  pub reply : Reply
  pub defects : List ℕ

abbrev pub round_out : Reply → List ℕ → RoundOut
round_out r defects = record { reply = r; defects = defects }

abbrev pub round_by : Buffered → ℕ → RoundOut
round_by l place = round_out (replied l.answer place) l.buffer

abbrev pub round_read : ℕ → ℕ → ℕ → List ℕ → ℕ → List ℕ → ℕ → RoundOut
round_read height distance model src at defects place = round_by (read_round (shape_by height distance model) src at defects) place

abbrev pub round_taken : ℕ → ℕ → ℕ → List ℕ → ℕ → List ℕ → ℕ → Taken RoundOut
round_taken height distance model src at defects place =
    taken (round_read height distance model src at defects place) (next_or (read_round (shape_by height distance model) src at defects).answer at)

abbrev pub round_written : ℕ → ℕ → ℕ → List ℕ → List ℕ → ℕ → ℕ → BufferOut
round_written height distance model defects out at place = buffer_by (write_round (shape_by height distance model) defects out at) place

-- a round of the result
pub record ResultOut : Type 0 where
  pub reply : Reply
  pub edges : List ℕ
  pub escapes : List ℕ
  pub steps : ℕ

abbrev pub result_out : Reply → List ℕ → List ℕ → ℕ → ResultOut
result_out r edges escapes steps = record { reply = r; edges = edges; escapes = escapes; steps = steps }

abbrev pub result_by : ResultBuffered → ℕ → ℕ → ResultOut
result_by l steps place = result_out (value_by l.answer steps place).reply l.edges l.escapes (value_by l.answer steps place).value

abbrev pub result_read : ℕ → ℕ → ℕ → List ℕ → ℕ → List ℕ → List ℕ → ℕ → ℕ → ResultOut
result_read height distance model src at edges escapes steps place = result_by (read_result (shape_by height distance model) src at edges escapes) steps place

abbrev pub result_taken : ℕ → ℕ → ℕ → List ℕ → ℕ → List ℕ → List ℕ → ℕ → ℕ → Taken ResultOut
result_taken height distance model src at edges escapes steps place =
    taken
    (result_read height distance model src at edges escapes steps place)
    (next_or (read_result (shape_by height distance model) src at edges escapes).answer at)

abbrev pub result_written : ℕ → ℕ → ℕ → List ℕ → List ℕ → ℕ → List ℕ → ℕ → ℕ → BufferOut
result_written height distance model edges escapes steps out at place =
    buffer_by (write_result (shape_by height distance model) (as_result edges escapes steps) out at) place

-- WHOLE STREAMS

abbrev pub input_scanned : List ℕ → ℕ → ℕ → ℕ → ℕ → ℕ → ScanOut
input_scanned src height distance model rounds place = scan_by (scanned (input_of src)) height distance model rounds place

abbrev pub results_scanned : List ℕ → ℕ → ℕ → ℕ → ℕ → ℕ → ScanOut
results_scanned src height distance model rounds place = scan_by (scanned (results_of src)) height distance model rounds place

pub record DecodeOut : Type 0 where
  pub reply : Reply
  pub out : List ℕ
  pub count : ℕ

abbrev pub decode_out : Reply → List ℕ → ℕ → DecodeOut
decode_out r out count = record { reply = r; out = out; count = count }

abbrev pub decode_by : DecodeReturned → ℕ → DecodeOut
decode_by l place = decode_out (concluded l.line place) l.buffer l.count

abbrev pub stream_decoded : List ℕ → List ℕ → ℕ → DecodeOut
stream_decoded src out place = decode_by (decode_leaves src out) place
