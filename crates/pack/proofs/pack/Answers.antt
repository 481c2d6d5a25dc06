-- `pack::pack` meets its contract. Assumes nothing.
use Rattle.std.proofs.Common.{rules}
use Rattle.std.proofs.iter.Serving.{serving}
use mathlib.Core.Path.{◌∙◌, ap}
use Prim.Native.Nat.{◌≤◌}
use native.Mathlib.Omega.{arith}
use Rattle.pack.specs.Packed.{node_rule, packed-stored}
use Rattle.flat.specs.Stored.{stored}
use Rattle.shape.proofs.LawsIndex.{nodes-max}
use Rattle.window.specs.declared.Node.{Node}
use lib.ListN.{replicate}
use Rattle.pack.proofs.pack.Goals as goal

pub store-requires : goal.store-requires
store-requires c = let few = nodes-max c.args.shape.height c.args.shape.distance in
    let low : c.nodes-n.result ≤ 3600 = omega (arith, few, c.nodes-n.ensures) in grind serving

pub returns : goal.returns
returns c = let a = c.args in let s = a.arrays.now in
    packed-stored a.shape a.stage a.next a.measured s.nodes s.marks s.edges c.nodes-n.result _ _ _ c.nodes-n.ensures
    (c.store.ensures (node_rule s.nodes s.marks) (λ i v l p. search rules) ∙ ap (λ (x : Node). stored 0 (node_rule s.nodes s.marks) c.nodes-n.result (replicate 3600 x)) c.alone-nodes.ensures)
    c.edge_slots.ensures.growth c.edge_slots.ensures.correction
