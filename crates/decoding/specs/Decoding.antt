-- THE DECODING of an input stream into a result stream. Assumes nothing.
use Rattle.std.specs.Prelude.{ℕ, zero, suc, ◌+◌, ◌-◌, Bool, List, [], ◌∷◌, ◌++◌, ltb, leb, length, replicate}
use Rattle.refusal.specs.Answer.{Answer, done, ended, refused, refused_at, unless, and_then, Code, plain, placed}
use Rattle.shape.specs.Choice.{if}
use Rattle.shape.specs.Sizes.{detectors_of}
use Rattle.steps.specs.Steps.{Table}
use Rattle.steps.specs.Models.{of_model}
use Rattle.layers.specs.Layers.{layer_edges}
use Rattle.record.specs.Records.{header, header_at, unless_ended, round_at, Result, result}
use Rattle.window.specs.Window.{is_rest, max_next}
use Rattle.window.specs.Fresh.{fresh_window}
use Rattle.window.specs.Formed.{well_formed}
use Rattle.window.specs.Round.{rounded, committed_edges, escaped_defects}
use Rattle.window.specs.Run.{ran}
use Rattle.window.specs.Calls.{round_call, run_call}
use Rattle.window.specs.declared.Ran.{Ran}
use Rattle.window.specs.declared.Window.{Window}

-- how it ends: at the stream's end, with a refusal, or with a round that is spent
pub data Line : Type 0 where
  finished : Line
  turned_back : Code → Line
  spent : Line

-- merging steps a round
abbrev pub budget : ℕ
budget = 65536

-- ONE RECORD

-- a round of the stream, received and run: the window after it, its round of the result, and whether it came to rest
pub record Turn : Type 0 where
  pub window : Window
  pub result : Result
  pub rest : Bool

-- the same, of a window and the run that came of its round
abbrev pub turn_by : Table → Window → Ran → Turn
turn_by T w v = record { window = v.window; result = record { edges = committed_edges T w; escapes = escaped_defects w; steps = v.count }; rest = v.rest }

-- of the bytes of a round and a window that no call refuses
abbrev pub turn_of : Table → Window → List ℕ → Turn
turn_of T w bytes = turn_by T w (ran T budget (rounded T w bytes))

-- a record's bytes, the window after it, and the offset behind the round; or how the decoding ends
pub data Recorded : Type 0 where
  wrote : (bytes : List ℕ) → Window → (next : ℕ) → Recorded
  stopped : Line → Recorded

-- 11: the record is longer than the rest of the buffer
abbrev pub record_written : ℕ → List ℕ → Window → ℕ → Recorded
record_written room bytes w next = if (leb (length bytes) room) (wrote bytes w next) (stopped (turned_back (plain 11)))

-- a round that came to rest is written, any other is spent
abbrev pub recorded : ℕ → Answer Turn → Recorded
recorded room ended = stopped finished
recorded room (refused e) = stopped (turned_back (plain e))
recorded room (refused_at e o) = stopped (turned_back (placed e o))
recorded room (done t next) = if t.rest (record_written room (result t.result) t.window next) (stopped spent)

-- 23: no round can follow the last one. It is asked behind the end, so that a stream that ends with the last round is decoded to its end
abbrev pub last_test : ℕ → List (Bool × ℕ)
last_test next = (ltb next max_next, 23) ∷ []

-- 10, 10: the offsets in both slices
abbrev pub offset_tests : List ℕ → ℕ → ℕ → ℕ → List (Bool × ℕ)
offset_tests s at size to = (leb at (length s), 10) ∷ (leb to size, 10) ∷ []

module _ (T : Table) (s : List ℕ) where
  -- a round is read at an offset, received and run
  unfoldable pub turn_at : Window → ℕ → Answer Turn
  turn_at w at =
      let detectors = detectors_of w.shape.height w.shape.distance in
      let edges = layer_edges T w.shape.height w.shape.distance in
      and_then (round_at s detectors at) (λ bytes next.
      and_then (round_call T w bytes (replicate {A = ℕ} edges 0) (replicate {A = ℕ} detectors 0)) (λ r z.
      and_then (run_call T r.window budget) (λ ran z.
      done (record { window = ran.window; result = record { edges = r.edges; escapes = r.escapes; steps = ran.count }; rest = ran.rest }) next)))

  -- 21, 22, 10, 10: the window, and the offsets in both slices
  abbrev pub record_tests : ℕ → Window → ℕ → ℕ → List (Bool × ℕ)
  record_tests size w at to =
      (well_formed T w, 21)
      ∷ (is_rest w.stage, 22)
      ∷ offset_tests s at size to

  -- the record of the round at an offset, for a buffer of so many bytes from an offset on: 21, 22, 10, 10, then the end, then 23, then the round
  -- with its refusals (7 to 9), and last its room (11)
  unfoldable pub record_at : ℕ → Window → ℕ → ℕ → Recorded
  record_at size w at to =
      recorded (size - to)
      (unless (record_tests size w at to)
      (unless_ended s at
      (unless (last_test w.next)
      (turn_at w at))))

-- ROUND AFTER ROUND

-- the records' bytes as far as they go, how it ends, and with which window and at which offset
pub record Rounds : Type 0 where
  pub output : List ℕ
  pub line : Line
  pub window : Window
  pub next : ℕ

abbrev pub stop : Line → Window → ℕ → Rounds
stop l w at = record { output = []; line = l; window = w; next = at }

abbrev pub after : List ℕ → Rounds → Rounds
after bytes r = record { output = bytes ++ r.output; line = r.line; window = r.window; next = r.next }

module _ (T : Table) (s : List ℕ) (size : ℕ) where
  -- the rounds from an offset on, n at most, for a buffer of size bytes
  unfoldable pub rounds_from : ℕ → Window → ℕ → ℕ → Rounds
  rounds_from zero w at to = stop finished w at
  rounds_from (suc n) w at to =
      elim (record_at T s size w at to) [
        | wrote bytes v next ↦ after bytes (rounds_from n v next (to + length bytes))
        | stopped l ↦ stop l w at
      ]

  -- all of them: each has a byte at least
  abbrev pub rounds : Window → ℕ → ℕ → Rounds
  rounds w at to = rounds_from (length s + 1) w at to

-- THE WHOLE STREAM

-- the result stream as far as it goes, and how it ends
pub record Decoded : Type 0 where
  pub output : List ℕ
  pub line : Line

abbrev pub nothing_written : Code → Decoded
nothing_written c = record { output = []; line = turned_back c }

abbrev pub behind : List ℕ → Rounds → Decoded
behind bytes r = record { output = bytes ++ r.output; line = r.line }

-- the header, then the rounds, by the table of its model
unfoldable pub decoded : List ℕ → ℕ → Decoded
decoded s size =
    elim (header_at s 0) [
      | ended ↦ nothing_written (placed 7 0)
      | refused e ↦ nothing_written (plain e)
      | refused_at e o ↦ nothing_written (placed e o)
      | done sh next ↦ if (leb (length (header sh)) size) (behind (header sh) (rounds (of_model sh.model) s size (fresh_window (of_model sh.model) sh) next (length (header sh)))) (nothing_written (plain 11))
    ]
