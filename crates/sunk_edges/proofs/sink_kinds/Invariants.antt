-- `sunk_edges::sink_kinds` meets its contract: the kinds passed are one sheet lower. Assumes nothing.
use Rattle.sunk_edges.specs.Edges.{Sank}
use Rattle.sunk_edges.proofs.sink_kinds.Given as goal

abbrev pub invariant-loop-kind : goal.invariant-loop-kind
invariant-loop-kind l = Sank l.layout.table l.second l.kind l.layout.sizes.nodes l.layout.sizes.sheet l.old l.initial.edges l.edges
