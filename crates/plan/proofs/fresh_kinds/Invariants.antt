-- `plan::fresh_kinds` meets its contract. Assumes nothing.
use Rattle.std.proofs.Common.{◌≡◌}
use Rattle.plan.specs.Passes.{passes}
use Rattle.plan.specs.Table.{fresh_on}
use Rattle.steps.specs.Models.{of_model}
use Rattle.plan.proofs.fresh_kinds.Given as goal

abbrev pub invariant-loop-kind : goal.invariant-loop-kind
invariant-loop-kind l = l.table ≡ passes (fresh_on (of_model l.shape.model) l.shape.height l.shape.distance) l.kind l.initial.table
