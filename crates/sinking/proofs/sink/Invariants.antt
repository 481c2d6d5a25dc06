-- `sinking::sink` meets its contract: the entries passed are by the rule. Assumes nothing.
use Rattle.std.proofs.Common.{ℕ, ◌+◌, ◌<◌, get_or}
use Rattle.sinking.proofs.sink.Given as goal

abbrev pub invariant-loop-i : goal.invariant-loop-i
invariant-loop-i g l = (d : _) (k : ℕ) → k < l.i → goal.F-post g l.rule (get_or l.old (512 + k) d) (get_or l.entry-items k d)
