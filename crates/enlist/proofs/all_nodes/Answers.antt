use Rattle.std.proofs.Common.{refl, arith, ◌+◌}
use Rattle.flat.specs.LawsEntries.{within_by}
use Rattle.enlist.specs.Enlisted.{enlisted-none, enlisted-next}
use Rattle.enlist.proofs.all_nodes.Goals as goal

pub loop-i-init : goal.loop-i-init
loop-i-init c = enlisted-none _ _ _ _ _ _ c.requires.queue c.requires.places

pub loop-i-preserved : goal.loop-i-preserved
loop-i-preserved c =
    let l = c.loop-i in
    enlisted-next _ _ _ _ _ _ _ _ _ l.invariant _ refl (within_by c.args.z.nodes (512 + l.i) (omega arith) (omega arith)) _ _ _ c.push-q.ensures
