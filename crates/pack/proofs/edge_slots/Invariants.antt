-- `pack::edge_slots` meets its contract. Assumes nothing.
use Rattle.std.proofs.Common.{◌≡◌, ◌*◌}
use Rattle.pack.specs.Packed.{growth_rule, bit_rule}
use Rattle.window.specs.Lists.{over}
use Rattle.pack.proofs.edge_slots.Given as goal

abbrev pub invariant-loop-kind : goal.invariant-loop-kind
invariant-loop-kind l =
    (l.growth ≡ over (l.n * l.kind) (growth_rule l.n l.edges) l.initial.growth) × (l.correction ≡ over (l.n * l.kind) (bit_rule l.n l.edges) l.initial.correction)
