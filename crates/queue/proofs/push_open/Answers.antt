use Rattle.std.proofs.Common.{ap, not}
use Rattle.queue.specs.LawsPush.{opened-closed, opened-open}
use Rattle.queue.proofs.push_open.Goals as goal
use Rattle.queue.proofs.push_open.Goals.{then-is_open, else-is_open}

pub loop-k-preserved : goal.loop-k-preserved
loop-k-preserved c =
    elim c.if-is_open.branch [
      | then-is_open w ↦ rw (w.q-is, w.queued-is, w.lists-is)
          (opened-open _ _ _ _ _ _ _ _ _ _ c.loop-k.invariant _ _ c.slot.ensures.value c.is_open.ensures (ap not w.if-is_open.true) _ w.over.ensures.value _ _ _ w.push-q-then-is_open.ensures)
      | else-is_open w ↦ rw (w.q-is, w.queued-is, w.lists-is)
          (opened-closed _ _ _ _ _ _ _ _ _ _ c.loop-k.invariant _ _ c.slot.ensures.value c.is_open.ensures (ap not w.if-is_open.false))
    ]
