use Rattle.std.proofs.Common.{◌+◌}
use Rattle.growing.specs.Grown.{Actives}
use Rattle.growing.proofs.list_part.Given as goal

abbrev pub invariant-loop-i : goal.invariant-loop-i
invariant-loop-i l = Actives (l.first + l.i) l.nodes l.q l.initial.lists l.lists
