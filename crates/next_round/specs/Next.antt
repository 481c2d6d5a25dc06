-- THE ROUND THAT A DECODING RECEIVES NEXT, by the offsets, the stream and the window's next round alone. Assumes nothing.
use Rattle.std.specs.Prelude.{ℕ, List}
use Rattle.refusal.specs.Answer.{Answer, unless}
use Rattle.record.specs.Records.{unless_ended, round_at}
use Rattle.decoding.specs.Decoding.{offset_tests, last_test}

-- 10, 10, then the end, then 23, then the round with its refusals
abbrev pub next_round : List ℕ → ℕ → ℕ → ℕ → ℕ → ℕ → Answer (List ℕ)
next_round s detectors next at size to = unless (offset_tests s at size to) (unless_ended s at (unless (last_test next) (round_at s detectors at)))
