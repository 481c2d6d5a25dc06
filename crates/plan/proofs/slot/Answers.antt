-- `plan::slot` meets its contract. Assumes nothing.
use native.Mathlib.Omega.{arith}
use Rattle.plan.specs.Limits.{near, end_low}
use Rattle.plan.proofs.slot.Goals as goal

pub overflow_add-result : goal.overflow_add-result
overflow_add-result c = let n = near c.args.shape.height c.args.shape.distance c.requires.distance_value c.args.step c.requires.step_value in omega (arith, n.kind, end_low c.args.shape.height c.args.shape.distance c.requires.distance_value c.args.step c.requires.step_value, c.end_off.ensures)
