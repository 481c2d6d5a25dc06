use Rattle.std.proofs.Common.{refl, sym, ◌∙◌, arith}
use Rattle.growing.specs.LawsListed.{part-next, part-past}
use Rattle.growing.proofs.list_part.Goals as goal
use Rattle.growing.proofs.list_part.Goals.{then-active, else-active}

pub loop-i-preserved : goal.loop-i-preserved
loop-i-preserved c =
    let a = c.args in
    let l = c.loop-i in
    elim c.if-active.branch [
      | then-active w ↦ rw (w.q-is, w.lists-is) (part-next a.first l.i a.nodes.now l.q a.lists.now l.lists l.invariant _ refl c.told-lists (omega arith) (sym c.active.ensures ∙ w.if-active.true))
      | else-active w ↦ rw (w.q-is, w.lists-is) (part-past a.first l.i a.nodes.now l.q a.lists.now l.lists l.invariant _ refl (sym c.active.ensures ∙ w.if-active.false))
    ]
