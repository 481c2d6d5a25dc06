use Rattle.std.proofs.Common.{refl, sym, ◌∙◌, arith, ◌+◌}
use Rattle.flat.specs.LawsEntries.{within_by}
use Rattle.enlist.specs.Enlisted.{enlisted-none, enlisted-past, enlisted-next}
use Rattle.enlist.proofs.push_hot.Goals as goal
use Rattle.enlist.proofs.push_hot.Goals.{then-defect, else-defect}

pub loop-i-init : goal.loop-i-init
loop-i-init c = record { queue = c.requires.queue; enlisted = λ m l p. enlisted-none _ _ _ _ _ _ c.requires.queue p }

pub loop-i-preserved : goal.loop-i-preserved
loop-i-preserved c =
    let l = c.loop-i in
    elim c.if-defect.branch [
      | then-defect w ↦
          rw (w.q-is, w.queued-is, w.lists-is) (record {
            queue = w.push-q.ensures.queue;
            enlisted = λ m h p. enlisted-next _ _ _ _ _ _ _ _ _ (l.invariant.enlisted m h p) _ refl (within_by m (c.args.at + l.i) (omega arith) (omega arith)) _ _ _ w.push-q.ensures;
          })
      | else-defect w ↦
          rw (w.q-is, w.queued-is, w.lists-is) (record {
            queue = l.invariant.queue;
            enlisted = λ m h p. enlisted-past _ _ _ _ _ _ _ _ _ (l.invariant.enlisted m h p) (sym c.defect.ensures ∙ w.if-defect.false);
          })
    ]
