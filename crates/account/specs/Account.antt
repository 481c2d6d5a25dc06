-- THE ACCOUNT OF A DECODING: between the bytes that go in and the bytes that are written for them no defect is lost. Of every round that has left
-- the window the two streams alone account for every defect (`settled`); of the others they do so together with what the window still holds
-- (`conserved`). What is written reads back as the results that this speaks of, and the law's own calls made them. Edges and calls are by the table
-- of steps of the model that the streams name in their header. Assumes nothing.
use Rattle.std.specs.Prelude.{ℕ, zero, suc, ◌+◌, ◌-◌, ◌*◌, ◌%◌, ◌≤◌, ◌<◌, ◌≡◌, Bool, true, ◌&&◌, List, [], ◌∷◌, ◌++◌, map, eqb, length, take, get_or, replicate}
use Rattle.refusal.specs.Answer.{done, value_or}
use Rattle.refusal.specs.Bytes.{Bytes}
use Rattle.shape.specs.Sizes.{max_height, max_distance, sheets_of}
use Rattle.steps.specs.Steps.{Table}
use Rattle.steps.specs.Models.{of_model}
use Rattle.layers.specs.Layers.{edge_of}
use Rattle.shape.specs.declared.Shape.{Shape}
use Rattle.record.specs.Records.{header, header_at, Result}
use Rattle.trip.specs.Streams.{Stream, input_of, input_bytes, results_of, result_bytes}
use Rattle.trip.specs.Fits.{detectors_in, edges_in, InputFits, ResultFits}
use Rattle.window.specs.Lists.{bit}
use Rattle.window.specs.Window.{is_rest}
use Rattle.window.specs.Fresh.{fresh_window}
use Rattle.window.specs.Calls.{fresh_call, run_call}
use Rattle.window.specs.declared.Window.{Window}
use Rattle.law.specs.Law.{Call, round, raw, grow, merging, run, Receipt, Played, returned, play, start, Spot, ends, sum, pending, standing, ending, Law}
use Rattle.decoding.specs.Decoding.{finished, budget, Rounds, rounds, Decoded, behind, decoded}
use Rattle.decoding.specs.Decoding as decoding

-- DEFECTS IN THE STREAMS. Rounds are numbered as in the law: from 0, as many absent ones as the window has sheets, then the input's. Result n, from
-- 0, has the edges of round n's layer and the escaped detectors of round n.

module _ (sh : Shape) where
  -- a detector of a supplied round
  pub record SuppliedDetector (a : Spot) : Type 0 where
    pub supplied : sheets_of sh.distance ≤ a.round
    pub row : a.row < sh.height
    pub west : 1 ≤ a.column
    pub east : a.column < sh.distance

  -- its entry in a list of one a detector, row by row
  abbrev pub entry_in : Spot → ℕ
  entry_in a = a.row * (sh.distance - 1) + (a.column - 1)

-- the defect that the input has there
abbrev pub received_in : Stream (List ℕ) → Spot → ℕ
received_in input a = get_or (get_or input.records (a.round - sheets_of input.shape.distance) []) (entry_in input.shape a) 0

-- past the last result there is nothing
abbrev pub no_result : Result
no_result = record { edges = []; escapes = []; steps = 0 }

module _ (output : Stream Result) where
  -- edge i of round n's layer is in the output
  abbrev pub committed_in : ℕ → ℕ → Bool
  committed_in n i = eqb (get_or (get_or output.records n no_result).edges i 0) 1

  -- the number of edges in the output that end at a detector, by the model in the header
  abbrev pub ending_in : Spot → ℕ
  ending_in a =
      let sh = output.shape in
      let T = of_model sh.model in
      sum (length output.records) (λ n. sum (edges_in sh) (λ i. bit (committed_in n i && ends T n (edge_of T sh.height sh.distance i) a)))

  -- the output has a detector among the escaped
  abbrev pub escaped_in : Spot → Bool
  escaped_in a = eqb (get_or (get_or output.records a.round no_result).escapes (entry_in output.shape a) 0) 1

-- THE LAW'S CALLS for an input: each round is received, into buffers of the shape's sizes, and run
unfoldable pub calls_of : Shape → List (List ℕ) → List Call
calls_of sh [] = []
calls_of sh (bytes ∷ rounds) = round bytes (replicate {A = ℕ} (edges_in sh) 0) (replicate {A = ℕ} (detectors_in sh) 0) ∷ run budget ∷ calls_of sh rounds

-- the window after them, and their receipts, by the model in the header
abbrev pub played_of : Stream (List ℕ) → Played
played_of input =
    let T = of_model input.shape.model in
    play T (start (fresh_window T input.shape)) (calls_of input.shape input.records)

-- the receipt of a round and its result: the bytes of the one, the edges and the escapes of the other
abbrev pub receipt_with : List ℕ → Result → Receipt
receipt_with bytes r = record { defects = bytes; edges = r.edges; escapes = r.escapes }

unfoldable pub receipts_of : List (List ℕ) → List Result → List Receipt
receipts_of [] results = []
receipts_of (bytes ∷ rounds) [] = []
receipts_of (bytes ∷ rounds) (r ∷ results) = receipt_with bytes r ∷ receipts_of rounds results

module _ (T : Table) where
  -- the steps that a call counts, if it is a run that is not refused
  abbrev pub count_of : Window → Call → List ℕ
  count_of w (round bytes edges escapes) = []
  count_of w (raw bytes edges escapes) = []
  count_of w grow = []
  count_of w merging = []
  count_of w (run budget) = value_or (run_call T w budget) (λ r. r.count ∷ []) []

  -- of a list of calls, each on the window as the last one returned it
  unfoldable pub counts_of : Window → List Call → List ℕ
  counts_of w [] = []
  counts_of w (c ∷ cs) = count_of w c ++ counts_of (returned T w c) cs

-- of the law's calls for an input, by the model in the header
abbrev pub counts_for : Stream (List ℕ) → List ℕ
counts_for input =
    let T = of_model input.shape.model in
    counts_of T (fresh_window T input.shape) (calls_of input.shape input.records)

abbrev pub steps_in : Result → ℕ
steps_in r = r.steps

-- THE ACCOUNT

-- the first n rounds of an input
abbrev pub first_of : ℕ → Stream (List ℕ) → Stream (List ℕ)
first_of n t = record { shape = t.shape; records = take n t.records }

-- of the bytes s, and of what was written for them and how it ended
pub record Account (s : List ℕ) (d : Decoded) : Type 0 where
  -- The rounds that were decoded, and their results.
  pub input : Stream (List ℕ)
  pub output : Stream Result
  -- NO DEFECT IS LOST. At every detector of every supplied round that has left the window (after k results rounds 0 to k - 1 have): the defect
  -- that the input has there is, modulo 2, the number of edges in the output that end there, plus one if the output has it among the escaped.
  pub settled : (a : Spot) → a.round < length output.records → SuppliedDetector output.shape a
      → received_in input a % 2 ≡ (ending_in output a + bit (escaped_in output a)) % 2
  -- At every detector of every supplied round, in the window or not: the same, plus the number of pending edges that end there, plus one if a
  -- defect stands there now, in the window that the law's calls for the input leave.
  pub conserved : (a : Spot) → a.round < sheets_of input.shape.distance + length input.records → SuppliedDetector input.shape a
      → received_in input a % 2
      ≡ (ending_in output a + ending (of_model input.shape.model) (played_of input) (pending (of_model input.shape.model) (played_of input)) a
      + bit (standing (played_of input) a)
      + bit (escaped_in output a)) % 2
  -- The results of absent rounds have nothing.
  pub absent : (n : ℕ) → n < sheets_of output.shape.distance → (i : ℕ)
      → (get_or (get_or output.records n no_result).edges i 0 ≡ 0) × (get_or (get_or output.records n no_result).escapes i 0 ≡ 0)
  -- THE BYTES. What was written is the output's bytes, and it reads back as the output, to its last byte.
  pub writes : d.output ≡ result_bytes output
  pub output-fits : ResultFits output
  pub back : results_of d.output ≡ done output (length d.output)
  -- What was read is the input's bytes, at the front of s.
  pub remaining : List ℕ
  pub reads : s ≡ input_bytes input ++ remaining
  pub input-fits : InputFits input
  -- Both are of one shape, the model in it, and there is a result for each round.
  pub shape : output.shape ≡ input.shape
  pub each : length output.records ≡ length input.records
  -- If s is an input stream, the input is its first rounds, one for each result; if the decoding finished, s is one, and the input is all of it.
  pub front : (t : Stream (List ℕ)) (end : ℕ) → input_of s ≡ done t end → input ≡ first_of (length output.records) t
  pub whole : d.line ≡ finished → input_of s ≡ done input (length s)
  -- BY THE LAW'S CALLS. Those for the input leave the output's edges and escapes in their receipts, one for each round, so that none was refused;
  -- their runs count the output's steps; they leave the window at rest; and the law holds of them, by the model in the header.
  pub receipts : (played_of input).receipts ≡ receipts_of input.records output.records
  pub steps : counts_for input ≡ map steps_in output.records
  pub rests : is_rest (played_of input).window.stage ≡ true
  pub law : Law (of_model input.shape.model) (fresh_window (of_model input.shape.model) input.shape) (played_of input)

-- A decoding that is resumed n times where it stopped, each time with an empty buffer of the same size, as the program does it
unfoldable pub resumed_from : Table → List ℕ → ℕ → ℕ → Window → ℕ → ℕ → Rounds
resumed_from T s size zero w at to = rounds T s size w at to
resumed_from T s size (suc n) w at to =
    let r = rounds T s size w at to in
    decoding.after r.output (resumed_from T s size n r.window r.next 0)

-- Where the decoding hands out its window, that is the window of the account, and it has the header's shape: by its model the next piece is resumed
pub record WindowAccount (s : List ℕ) (sh : Shape) (r : Rounds) : Type 0 where
  pub account : Account s (behind (header sh) r)
  pub window : (played_of account.input).window ≡ r.window
  pub shape : r.window.shape ≡ sh

-- WHICH DECODINGS have an account, whatever their model; s is a list of bytes, each below 256
pub record Accounts : Type 0 where
  -- Of any bytes, into a buffer of any size, however it ends, if anything was written;
  pub account : (s : List ℕ) (size : ℕ) → Bytes s → 0 < length (decoded s size).output → Account s (decoded s size)
  -- and something was, if it finished.
  pub finishes : (s : List ℕ) (size : ℕ) → (decoded s size).line ≡ finished → 0 < length (decoded s size).output
  -- Of any bytes that begin with a header, decoded in pieces by the model in it.
  pub pieces : (s : List ℕ) (size n : ℕ) → Bytes s → (sh : Shape) (next : ℕ) → header_at s 0 ≡ done sh next
      → WindowAccount s sh (resumed_from (of_model sh.model) s size n (fresh_window (of_model sh.model) sh) next (length (header sh)))
  -- Each begins with the fresh window of the header's shape, which a creation for the limits 15 and 15 gives.
  pub begins : (s : List ℕ) (size : ℕ) (sh : Shape) (next : ℕ) → header_at s 0 ≡ done sh next → length (header sh) ≤ size
      → (decoded s size ≡ behind (header sh) (rounds (of_model sh.model) s size (fresh_window (of_model sh.model) sh) next (length (header sh))))
      × (fresh_call (of_model sh.model) sh.height sh.distance sh.model max_height max_distance ≡ done (fresh_window (of_model sh.model) sh) 0)
