-- `steps::step_of` meets its contract. Assumes nothing.
use Rattle.std.proofs.Common.{◌∙◌, arith}
use Rattle.steps.proofs.Models.{model-steps}
use Rattle.steps.proofs.step_of.Goals as goal

pub returns-then-pointer-dirs : goal.returns-then-pointer-dirs
returns-then-pointer-dirs c = c.any_step.ensures ∙ model-steps _ _ (omega arith)
