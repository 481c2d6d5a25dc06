-- `unpack::edges_kinds` meets its contract. Assumes nothing.
use Rattle.std.proofs.Common.{◌≡◌}
use Rattle.plan.specs.Passes.{passes}
use Rattle.unpack.specs.Edges.{kind_on}
use Rattle.unpack.proofs.edges_kinds.Given as goal

abbrev pub invariant-loop-kind : goal.invariant-loop-kind
invariant-loop-kind l = l.edges ≡ passes (kind_on l.layout.sizes.nodes l.layout.sizes.sheet l.there l.w.growth l.w.correction l.layout.table) l.kind l.initial.edges
