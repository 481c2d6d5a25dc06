-- The measure is what is left of the script.
use Rattle.std.proofs.Common.{length}
use Rattle.replay.proofs.main.Given as goal

abbrev pub invariant-loop-letter : goal.invariant-loop-letter
invariant-loop-letter l = Unit {0}

abbrev pub decreases-loop-letter : goal.decreases-loop-letter
decreases-loop-letter l = length l.text
