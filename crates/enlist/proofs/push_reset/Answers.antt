use Rattle.std.proofs.Common.{refl, arith, ne_eqb, ◌+◌}
use Rattle.flat.specs.LawsEntries.{within_by}
use Rattle.enlist.specs.Enlisted.{spread_none, spread-past, spread-next}
use Rattle.enlist.proofs.push_reset.Goals as goal
use Rattle.enlist.proofs.push_reset.Goals.{then-marks-x, else-marks-x}

pub loop-i-init : goal.loop-i-init
loop-i-init c = spread_none _ _ _ _ _ _ _ _ c.requires.queue c.requires.places

pub loop-i-preserved : goal.loop-i-preserved
loop-i-preserved c =
    let l = c.loop-i in
    elim c.if-marks-x.branch [
      | then-marks-x w ↦
          let i = within_by c.args.layout.now.sizes.nodes (c.args.at + l.i) (omega arith) (omega arith) in
          rw (w.q-is, w.queued-is, w.lists-is) (spread-next _ _ _ _ _ _ _ _ _ _ _ l.invariant _ refl i (c.requires.by_index _ i) _ _ _ w.push_open-q.ensures)
      | else-marks-x w ↦ rw (w.q-is, w.queued-is, w.lists-is) (spread-past _ _ _ _ _ _ _ _ _ _ _ l.invariant (ne_eqb _ _ w.if-marks-x.false))
    ]
