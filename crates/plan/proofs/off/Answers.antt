-- `plan::off` meets its contract. Assumes nothing.
use native.Mathlib.Omega.{arith}
use Rattle.plan.specs.Limits.{ends_low, off-is}
use Rattle.plan.proofs.off.Goals as goal

pub overflow_add-result : goal.overflow_add-result
overflow_add-result c = let e = (ends_low _ _ c.requires.distance_value c.args.step c.requires.step_value _ _ c.index_of-on.ensures c.index_of-back.ensures) in omega (arith, e.0)

pub overflow_sub-result : goal.overflow_sub-result
overflow_sub-result c = let e = (ends_low _ _ c.requires.distance_value c.args.step c.requires.step_value _ _ c.index_of-on.ensures c.index_of-back.ensures) in omega (arith, e.1)

pub overflow_cast-result : goal.overflow_cast-result
overflow_cast-result c = let e = (ends_low _ _ c.requires.distance_value c.args.step c.requires.step_value _ _ c.index_of-on.ensures c.index_of-back.ensures) in omega (arith, e.0)

pub returns : goal.returns
returns c = off-is _ _ c.requires.distance_value c.args.step c.requires.step_value _ _ c.index_of-on.ensures c.index_of-back.ensures
