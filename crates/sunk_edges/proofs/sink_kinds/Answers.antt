-- `sunk_edges::sink_kinds` meets its contract: the kinds passed are one sheet lower. Assumes nothing.
use Rattle.std.proofs.Common.{arith}
use Rattle.sunk_edges.specs.LawsEdges.{sank-next}
use Rattle.sunk_edges.proofs.sink_kinds.Goals as goal

pub loop-kind-preserved : goal.loop-kind-preserved
loop-kind-preserved c =
    let t = c.args.layout.now in
    let l = c.loop-kind in
    sank-next t.table c.args.second t.sizes.nodes t.sizes.sheet c.args.old.now c.args.edges.now l.kind (omega (arith, t.safe.kinds)) t.safe.nodes c.requires.sheet_bound l.edges c.sink_edges.new.edges c.lay_kind.new.edges
    c.told-edges l.invariant c.sink_edges.ensures c.lay_kind.ensures
