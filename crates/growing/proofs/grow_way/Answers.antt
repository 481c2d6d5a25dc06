use Rattle.std.specs.Prelude.{◌+◌}
use Rattle.std.proofs.Common.{arith}
use Rattle.growing.specs.LawsGrown.{edge_in_lem, hits-none, raised-start, leads-on, way_next}
use Rattle.growing.proofs.grow_way.Goals as goal

pub loop-i-init : goal.loop-i-init
loop-i-init c = raised-start _ _ _ (hits-none _) _ _ _ _ c.requires.queue

pub grow_edge-q-requires-clause-leads : goal.grow_edge-q-requires-clause-leads
grow_edge-q-requires-clause-leads c =
    let a = c.args.layout.now in
    leads-on _ _ _ _ _ _ _ _ _ _ (λ x k w h. edge_in_lem a.sizes a.table a.safe x k w h) c.loop-i.invariant c.requires.leads

pub loop-i-preserved : goal.loop-i-preserved
loop-i-preserved c =
    let R = c.loop-i.invariant in
    way_next _ _ _ _ _ _ _ _ _ _ _ _ _ _ _ _ _ (R.extends.behind (9216 + c.loop-i.i) (omega arith)) R c.grow_edge-q.ensures
