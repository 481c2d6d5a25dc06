use Rattle.std.specs.Prelude.{◌+◌}
use Rattle.std.proofs.Common.{arith}
use Rattle.growing.specs.LawsGrown.{edge_in_lem, all_none, raised-start, leads-on, ways_next}
use Rattle.growing.proofs.grow_ways.Goals as goal

pub loop-k-init : goal.loop-k-init
loop-k-init c = raised-start _ _ _ (all_none _ _ _) _ _ _ _ c.requires.queue

pub grow_way-q-requires-clause-leads : goal.grow_way-q-requires-clause-leads
grow_way-q-requires-clause-leads c =
    let a = c.args.layout.now in
    leads-on _ _ _ _ _ _ _ _ _ _ (λ x k w h. edge_in_lem a.sizes a.table a.safe x k w h) c.loop-k.invariant c.requires.leads

pub loop-k-preserved : goal.loop-k-preserved
loop-k-preserved c =
    let R = c.loop-k.invariant in
    ways_next _ _ _ _ _ _ _ _ _ _ _ _ _ _ _ _ _ (λ i h. R.extends.behind (9216 + i) (omega arith)) R c.grow_way-q.ensures
