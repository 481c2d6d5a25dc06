use Rattle.std.proofs.Common.{min}
use Rattle.growing.specs.Grown.{Actives}
use Rattle.growing.proofs.list_active.Given as goal

abbrev pub invariant-loop-first : goal.invariant-loop-first
invariant-loop-first l = Actives (min l.first l.z.nodes) l.nodes l.q l.initial.lists l.lists
