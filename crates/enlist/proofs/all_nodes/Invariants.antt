use Rattle.std.proofs.Common.{true, ◌+◌}
use Rattle.enlist.specs.Enlisted.{Enlisted}
use Rattle.enlist.proofs.all_nodes.Given as goal

abbrev pub invariant-loop-i : goal.invariant-loop-i
invariant-loop-i l = Enlisted l.fn.z.nodes l.count l.initial.lists (λ j. true) (λ j. 512 + j) l.i l.q l.lists l.queued
