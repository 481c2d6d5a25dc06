use Rattle.std.proofs.Common.{ℕ, List, ◌∙◌, sym, ap, get_or, arith}
use Rattle.node_step.specs.Words.{stir_in}
use Rattle.queue.specs.LawsTrues.{queue-most}
use Rattle.next_list.specs.LawsNext.{apart-kept, next-quiet, next_more}
use Rattle.next_list.proofs.next_list.Goals as goal
use Rattle.next_list.proofs.next_list.Goals.{then-stir_in, else-stir_in}

pub offset_bounds-work-i : goal.offset_bounds-work-i
offset_bounds-work-i c = omega (arith, queue-most c.requires.queue)

pub bounds-work-i : goal.bounds-work-i
bounds-work-i c = omega (arith, queue-most c.requires.queue)

pub loop-i-preserved : goal.loop-i-preserved
loop-i-preserved c =
    let l = c.loop-i in
    let r = l.invariant.next in
    let told = c.stir_in.ensures ∙ ap (λ (ws : List ℕ). stir_in (get_or ws l.i 0)) l.invariant.words in
    elim c.if-stir_in.branch [
      | then-stir_in w ↦
          let m = queue-most c.requires.queue in
          let k = apart-kept _ _ _ _ _ c.requires.from_bound.2 r.extends l.i (omega (arith, m)) in
          rw (w.q-is, w.work-is) (record { next = next_more _ _ _ _ _ _ _ _ _ _ _ r (c.requires.places l.i c.loop-i-test.true) (c.requires.by_index l.i c.loop-i-test.true) _ _ _ (rw k at w.push_open-q.ensures); words = l.invariant.words })
      | else-stir_in w ↦ rw (w.q-is, w.work-is) (record { next = next-quiet _ _ _ _ _ _ _ _ _ _ _ r (sym told ∙ w.if-stir_in.false); words = l.invariant.words })
    ]
