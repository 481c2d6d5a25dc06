-- `flooding::scan` meets its contract. Assumes nothing.
use Rattle.std.proofs.Common.{ap}
use Rattle.std.proofs.Math.Bool.{not}
use Rattle.flooding.specs.LawsScan.{closed-again, stopped, higher-again, lower-again, scan-done}
use Rattle.flooding.proofs.scan.Goals as goal
use Rattle.flooding.proofs.scan.Goals.{then-is_open+else-v-unrooted+then-v-lowest, then-is_open+else-v-unrooted+else-v-lowest, else-is_open}

pub returns-then-v-unrooted : goal.returns-then-v-unrooted
returns-then-v-unrooted c = stopped _ _ _ _ _ _ _ _ _ _ c.loop-k-test.true c.loop-k.invariant _ _ c.slot-e.ensures.value c.is_open.ensures (ap not c.if-is_open.true) _ c.over-j.ensures.value c.if-v-unrooted.true

pub loop-k-preserved : goal.loop-k-preserved
loop-k-preserved c = elim c.if-is_open.branch [
  | then-is_open+else-v-unrooted+then-v-lowest w ↦ rw w.lowest-is (lower-again _ _ _ _ _ _ _ _ _ _ c.loop-k-test.true c.loop-k.invariant _ _ c.slot-e.ensures.value c.is_open.ensures (ap not w.if-is_open.true) _ w.over-j.ensures.value w.if-v-unrooted.false w.if-v-lowest.true)
  | then-is_open+else-v-unrooted+else-v-lowest w ↦ rw w.lowest-is (higher-again _ _ _ _ _ _ _ _ _ _ c.loop-k-test.true c.loop-k.invariant _ _ c.slot-e.ensures.value c.is_open.ensures (ap not w.if-is_open.true) _ w.over-j.ensures.value w.if-v-unrooted.false w.if-v-lowest.false)
  | else-is_open w ↦ rw w.lowest-is (closed-again _ _ _ _ _ _ _ _ _ _ c.loop-k-test.true c.loop-k.invariant _ _ c.slot-e.ensures.value c.is_open.ensures (ap not w.if-is_open.false))
]

pub returns : goal.returns
returns c = scan-done _ _ _ _ _ _ _ _ _ _ c.loop-k-test.false c.loop-k.invariant
