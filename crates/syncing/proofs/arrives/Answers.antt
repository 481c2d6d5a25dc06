-- `syncing::arrives` meets its contract. Assumes nothing.
use Rattle.syncing.specs.LawsArrived.{none-again, edge-again, arrived-done}
use Rattle.syncing.proofs.arrives.Goals as goal
use Rattle.syncing.proofs.arrives.Goals.{then-growth-ne-NO_EDGE, else-growth-ne-NO_EDGE}

pub loop-k-preserved : goal.loop-k-preserved
loop-k-preserved c = elim c.if-growth-ne-NO_EDGE.branch [
  | then-growth-ne-NO_EDGE w ↦ rw w.odd-is (edge-again _ _ _ _ _ _ _ _ _ c.loop-k-test.true c.loop-k.invariant _ _ c.slot-e.ensures.value c.growth.ensures w.if-growth-ne-NO_EDGE.true _ w.over-j.ensures.value _ w.pushes-odd.ensures)
  | else-growth-ne-NO_EDGE w ↦ rw w.odd-is (none-again _ _ _ _ _ _ _ _ _ c.loop-k-test.true c.loop-k.invariant _ _ c.slot-e.ensures.value c.growth.ensures w.if-growth-ne-NO_EDGE.false)
]

pub returns : goal.returns
returns c = arrived-done _ _ _ _ _ _ _ _ _ c.loop-k-test.false c.loop-k.invariant
