-- `unpack::edges_kind` meets its contract. Assumes nothing.
use Rattle.std.proofs.Common.{◌≡◌, ◌+◌, ◌*◌}
use Rattle.plan.specs.Passes.{blocks}
use Rattle.unpack.specs.Edges.{sheet_rule}
use Rattle.unpack.proofs.edges_kind.Given as goal

abbrev pub invariant-loop-k : goal.invariant-loop-k
invariant-loop-k l = l.edges ≡ blocks l.cells l.n (λ j. sheet_rule l.w.growth l.w.correction l.layout.table (4608 + 240 * l.kind) (l.slots + j * l.n)) l.n l.k l.initial.edges
