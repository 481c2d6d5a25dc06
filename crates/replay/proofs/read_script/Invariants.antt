-- Each read that gave bytes leaves less room.
use Rattle.std.proofs.Common.{◌≤◌, ◌-◌, length}
use Rattle.replay.proofs.read_script.Given as goal

abbrev pub invariant-loop-n : goal.invariant-loop-n
invariant-loop-n g l = l.n ≤ length l.script

abbrev pub decreases-loop-n : goal.decreases-loop-n
decreases-loop-n g l = length l.script - l.n
