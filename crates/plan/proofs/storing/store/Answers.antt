-- `plan::store` meets its contract. Assumes nothing.
use Rattle.flat.specs.Stored.{stored-none, stored_next, stored-done}
use Rattle.plan.proofs.storing.store.Goals as goal

pub loop-i-init : goal.loop-i-init
loop-i-init g c = λ f _. stored-none c.args.x f c.args.array.now

pub loop-i-preserved : goal.loop-i-preserved
loop-i-preserved g c = let l = c.loop-i in λ f says. stored_next c.args.x f c.args.array.now l.i l.array c.entry.result (l.invariant f says) (says l.i c.entry.result c.loop-i-test.true c.entry.ensures)

pub returns : goal.returns
returns g c = let l = c.loop-i in λ f says. stored-done c.args.x f c.args.array.now l.i c.args.n l.array (l.invariant f says) l.auto.i-end c.loop-i-test.false
