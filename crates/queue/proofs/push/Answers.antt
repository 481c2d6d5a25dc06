use native.Mathlib.Omega.{arith}
use Rattle.queue.specs.LawsTrues.{queue-room}
use Rattle.queue.specs.LawsPush.{pushed-now}
use Rattle.queue.proofs.push.Goals as goal

pub overflow_add-lists : goal.overflow_add-lists
overflow_add-lists c = let r = queue-room c.requires.queue _ c.requires.x_bound.0 c.if-queued-x.false in omega (arith, r, c.requires.x_bound.1)

pub offset_bounds-lists-from : goal.offset_bounds-lists-from
offset_bounds-lists-from c = let r = queue-room c.requires.queue _ c.requires.x_bound.0 c.if-queued-x.false in omega (arith, r, c.requires.x_bound.1)

pub bounds-lists-from : goal.bounds-lists-from
bounds-lists-from c = let r = queue-room c.requires.queue _ c.requires.x_bound.0 c.if-queued-x.false in omega (arith, r, c.requires.x_bound.1)

pub overflow_add-result : goal.overflow_add-result
overflow_add-result c = let r = queue-room c.requires.queue _ c.requires.x_bound.0 c.if-queued-x.false in omega (arith, r)

pub returns : goal.returns
returns c = pushed-now _ _ _ _ _ c.requires.x_bound.0 c.requires.x_bound.1 c.requires.queue c.if-queued-x.false
