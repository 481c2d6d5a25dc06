use Rattle.std.specs.Prelude.{◌≡◌, refl}
use Rattle.std.proofs.Common.{arith}
use Rattle.flat.specs.Structs.{plan_in}
use Rattle.growing.specs.LawsGrown.{edge-full, edge-half, edge-opens}
use Rattle.growing.proofs.grow_edge.Goals as goal

pub returns-then-t-ge2 : goal.returns-then-t-ge2
returns-then-t-ge2 c =
    let a = c.args in
    let o = c.slot-e in
    edge-full (plan_in a.layout.now) a.layout.now.sizes.nodes a.x a.k a.edges.now a.count a.lists.now a.queued.now c.told-edges c.requires.queue o.result o.ensures.value o.ensures.bound c.growth-t.result c.growth-t.ensures (omega arith)

pub returns-then-t-eq0 : goal.returns-then-t-eq0
returns-then-t-eq0 c =
    let a = c.args in
    let o = c.slot-e in
    edge-half (plan_in a.layout.now) a.layout.now.sizes.nodes a.x a.k a.edges.now a.count a.lists.now a.queued.now c.told-edges c.requires.queue o.result o.ensures.value o.ensures.bound c.growth-t.result c.growth-t.ensures (omega arith) _ refl (omega arith)

pub returns : goal.returns
returns c =
    let a = c.args in
    let o = c.slot-e in
    edge-opens (plan_in a.layout.now) a.layout.now.sizes.nodes a.x a.k a.edges.now a.count a.lists.now a.queued.now c.told-edges c.requires.queue o.result o.ensures.value o.ensures.bound c.growth-t.result c.growth-t.ensures (omega arith) _ refl
    (λ (y : c.growth-t.result ≡ 0). omega arith) c.requires.k_lt_dirs.1 c.requires.k_lt_dirs.0 c.requires.leads c.over.result c.over.ensures.value _ _ _ _ _ _ c.push-q.ensures c.push.ensures
