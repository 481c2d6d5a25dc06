use Rattle.std.proofs.Common.{rules, ◌+◌, ◌≡◌, refl, arith}
use Rattle.std.proofs.lemmas.List.Edits.{length-between, get_or-between}
use Rattle.flat.specs.Laid.{laid_none, laid_next}
use Rattle.queue.specs.LawsTrues.{queue-most}
use Rattle.queue.specs.LawsEmpty.{emptied}
use Rattle.queue.proofs.unqueue.Goals as goal

pub overflow_add-x-items : goal.overflow_add-x-items
overflow_add-x-items c = let m = queue-most c.requires.queue in omega (arith, m)

pub slice_bounds-x-items-end : goal.slice_bounds-x-items-end
slice_bounds-x-items-end c = let m = queue-most c.requires.queue in search (rules, m)

pub loop-x-init : goal.loop-x-init
loop-x-init c = laid_none _ _ _

pub loop-x-preserved : goal.loop-x-preserved
loop-x-preserved c =
    let a = c.args in
    let p = length-between a.lists.now a.from (a.from + a.count) (omega (arith, queue-most c.requires.queue, c.requires.queue.long)) in
    laid_next _ _ _ _ _ _ _ c.loop-x.invariant (get_or-between a.lists.now a.from (a.from + a.count) c.loop-x.x-index 0 (omega (arith, p))) refl

pub returns : goal.returns
returns c =
    let a = c.args in
    let p = length-between a.lists.now a.from (a.from + a.count) (omega (arith, queue-most c.requires.queue, c.requires.queue.long)) in
    let e : c.loop-x.x-index ≡ a.count = omega (arith, p) in
    emptied _ _ _ _ _ c.requires.queue (rw e at c.loop-x.invariant)
