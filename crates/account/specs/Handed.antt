-- WHAT A CALLER IS LEFT WITH. `decode_leaves s old` is the term in the promise of `session::decode`, and `stream_decoded s old place` the one in
-- the promise of `baizeridge_decode`, for the bytes s that they are given and the buffer old that they are lent: so many bytes as they count, at
-- the front of the buffer that they leave, read back as the output that has an account. Assumes nothing.
use Rattle.std.specs.Prelude.{ℕ, ◌+◌, ◌≡◌, List, ◌++◌, length, take}
use Rattle.refusal.specs.Answer.{done}
use Rattle.steps.specs.Steps.{Table}
use Rattle.trip.specs.Streams.{input_of, results_of, result_bytes}
use Rattle.window.specs.declared.Window.{Window}
use Rattle.decoding.specs.Decoding.{rounds, decoded}
use Rattle.decoding.specs.Answers.{rounds_leave, decode_leaves}
use Rattle.exports.specs.Calls.{stream_decoded}
use Rattle.account.specs.Account.{Account}

-- the bytes that count says, at the buffer's front
abbrev pub written_bytes : List ℕ → List ℕ → List ℕ
written_bytes s old = take (decode_leaves s old).count (decode_leaves s old).buffer

pub record Handed (s old : List ℕ) : Type 0 where
  pub account : Account s (decoded s (length old))
  pub handed : written_bytes s old ≡ result_bytes account.output
  pub back : results_of (written_bytes s old) ≡ done account.output (decode_leaves s old).count

-- THE EXPORTED CALL: the count and the buffer that `baizeridge_decode` leaves
pub record Shipped (s old : List ℕ) (place : ℕ) : Type 0 where
  pub account : Account s (decoded s (length old))
  pub back : results_of (take (stream_decoded s old place).count (stream_decoded s old place).out) ≡ done account.output (stream_decoded s old place).count
  -- status 0: all of s is an input stream, and it was decoded to its end
  pub whole : (stream_decoded s old place).reply.status ≡ 0 → input_of s ≡ done account.input (length s)

-- A PIECE: `rounds_leave T s w at old to`, T by the model of w, is the term in the promise of `session::decode_rounds`. Up to the offset that it
-- answers, the buffer has what stood before the offset that it was given, and then the output of the rounds that it decoded; how it ended, its
-- window and its offset in the input are those of the same rounds. So what the program writes out, piece by piece, is what `pieces` of `Accounts`
-- speaks of.
pub record Piece (T : Table) (s : List ℕ) (w : Window) (at : ℕ) (old : List ℕ) (to : ℕ) : Type 0 where
  pub bytes : take (rounds_leave T s w at old to).behind (rounds_leave T s w at old to).buffer ≡ take to old ++ (rounds T s (length old) w at to).output
  pub line : (rounds_leave T s w at old to).line ≡ (rounds T s (length old) w at to).line
  pub window : (rounds_leave T s w at old to).window ≡ (rounds T s (length old) w at to).window
  pub next : (rounds_leave T s w at old to).next ≡ (rounds T s (length old) w at to).next
