-- `merge_step::gather` meets its contract. Assumes nothing.
use Rattle.std.proofs.Common.{arith, sym}
use Rattle.window.specs.LawsLists.{any_none, any_next}
use Rattle.edge_step.specs.Each.{each_none, each_next}
use Rattle.merge_step.proofs.gather.Goals as goal

pub loop-i-init : goal.loop-i-init
loop-i-init c = (each_none _ _ c.told-words, sym (any_none _))

pub loop-i-preserved : goal.loop-i-preserved
loop-i-preserved c =
    let l = c.loop-i in
    let r = c.node_after-after.ensures in
    (each_next _ _ _ _ (omega arith) l.invariant.0 r.tells, any_next _ _ _ _ l.invariant.1 r.busy_value)
