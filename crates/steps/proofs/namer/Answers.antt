-- `steps::namer` meets its contract. Assumes nothing.
use Rattle.std.proofs.Common.{◌∙◌, arith}
use Rattle.steps.proofs.Models.{model-none, model-names}
use Rattle.steps.proofs.namer.Goals as goal

pub returns-then-kind-kinds : goal.returns-then-kind-kinds
returns-then-kind-kinds c = c.any_namer.ensures ∙ model-names _ _ (omega arith)

pub returns-else-kind-kinds : goal.returns-else-kind-kinds
returns-else-kind-kinds c = model-none _ _ (omega arith)
