-- `run_steps::step` meets its contract. Assumes nothing.
use Rattle.std.proofs.Common.{arith}
use Rattle.run_steps.proofs.Listed.{part_leaves}
use Rattle.run_steps.proofs.step.Goals as goal

pub returns : goal.returns
returns c = let a = c.args in part_leaves a.lists.now a.from a.count (omega arith) _ _ _ _ _ _ _ _ c.pass.ensures
