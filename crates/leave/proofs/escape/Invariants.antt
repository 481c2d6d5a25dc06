-- `leave::escape` meets its contract: the rows passed are by the rule. Assumes nothing.
use Rattle.std.proofs.Common.{◌≡◌, ◌-◌, ◌*◌}
use Rattle.window.specs.Lists.{over}
use Rattle.leave.specs.LawsLeaving.{escapes}
use Rattle.leave.proofs.escape.Given as goal

abbrev pub invariant-loop-r : goal.invariant-loop-r
invariant-loop-r l = l.out ≡ over (l.r * (l.d - 1)) (escapes l.bottom l.d l.nodes l.initial.out) l.initial.out
