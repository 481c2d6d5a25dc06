-- Each turn but the first decodes a round, so the input gets shorter.
use Rattle.std.proofs.Common.{ℕ, ◌+◌, ◌*◌, ◌-◌, length}
use Rattle.decode.proofs.decode_rounds.Given as goal

-- the bytes left, and the header that stands in the buffer at first
abbrev pub bound : ℕ → ℕ → ℕ → ℕ
bound len at to = 2 * (len - at) + (1 - (1 - to))

abbrev pub invariant-loop-r : goal.invariant-loop-r
invariant-loop-r g l = Unit {0}

abbrev pub decreases-loop-r : goal.decreases-loop-r
decreases-loop-r g l = bound (length l.src) l.at l.to
