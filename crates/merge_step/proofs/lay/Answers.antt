-- `merge_step::lay` meets its contract. Assumes nothing.
use Rattle.std.proofs.Common.{refl}
use Rattle.flat.specs.Laid.{laid_none, laid_next}
use Rattle.merge_step.proofs.lay.Goals as goal

pub loop-i-init : goal.loop-i-init
loop-i-init c = (laid_none _ _ _, laid_none _ _ _)

pub loop-i-preserved : goal.loop-i-preserved
loop-i-preserved c =
    let l = c.loop-i in
    (laid_next _ _ _ _ _ _ _ l.invariant.0 refl c.node_in.ensures, laid_next _ _ _ _ _ _ _ l.invariant.1 refl c.mark_in.ensures)
