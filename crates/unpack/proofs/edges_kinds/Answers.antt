-- `unpack::edges_kinds` meets its contract. Assumes nothing.
use Rattle.plan.specs.Passes.{passes_none, passes-next}
use Rattle.unpack.specs.Edges.{kind_on}
use Rattle.unpack.proofs.edges_kinds.Goals as goal

pub loop-kind-init : goal.loop-kind-init
loop-kind-init c = passes_none _ c.args.edges.now

pub loop-kind-preserved : goal.loop-kind-preserved
loop-kind-preserved c = let l = c.loop-kind in let a = c.args in let z = a.layout.now.sizes in
    passes-next (kind_on z.nodes z.sheet a.there a.w.now.growth a.w.now.correction a.layout.now.table) a.edges.now l.kind l.edges _ l.invariant c.edges_kind.ensures
