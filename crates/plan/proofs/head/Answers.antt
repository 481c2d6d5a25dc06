-- `plan::head` meets its contract. Assumes nothing.
use mathlib.Core.Path.{◌∙◌, ap}
use Prim.Native.Nat.{ℕ, ◌-◌, ◌/◌, ◌%◌}
use native.Mathlib.Omega.{arith}
use Rattle.plan.specs.Heads.{head-off, head-slot, head-back, head-namer, head-falls, head-rises}
use Rattle.steps.specs.Models.{of_model}
use Rattle.steps.specs.Ranks.{bit}
use Rattle.plan.specs.Limits.{roomy-model}
use Rattle.plan.specs.Table.{small}
use Rattle.plan.proofs.head.Goals as goal

pub off-requires-clause-step_value : goal.off-requires-clause-step_value
off-requires-clause-step_value c = ap small c.step_of-step.ensures ∙ (roomy-model c.args.shape.model).steps (c.args.i % 32) (omega arith)

pub slot-requires-clause-step_value : goal.slot-requires-clause-step_value
slot-requires-clause-step_value c = ap small c.step_of-step.ensures ∙ (roomy-model c.args.shape.model).steps (c.args.i % 32) (omega arith)

pub returns-in-0 : goal.returns-in-0
returns-in-0 c = c.off.ensures ∙ head-off (of_model c.args.shape.model) c.args.shape.height c.args.shape.distance (c.args.i / 32) (c.args.i % 32) _ c.step_of-step.ensures c.in-0.is

pub returns-in-1 : goal.returns-in-1
returns-in-1 c = c.slot.ensures ∙ head-slot (of_model c.args.shape.model) c.args.shape.height c.args.shape.distance (c.args.i / 32) (c.args.i % 32) _ c.step_of-step.ensures c.in-1.is

pub returns-in-2 : goal.returns-in-2
returns-in-2 c = head-back (of_model c.args.shape.model) c.args.shape.height c.args.shape.distance (c.args.i / 32) (c.args.i % 32) _ c.step_of-step.ensures c.in-2.is

pub returns-in-3 : goal.returns-in-3
returns-in-3 c = c.saturating_sub.ensures ∙ ap (λ (x : ℕ). x - 1) c.namer.ensures ∙ head-namer (of_model c.args.shape.model) c.args.shape.height c.args.shape.distance (c.args.i / 32) (c.args.i % 32) c.in-3.is

pub returns-in-4 : goal.returns-in-4
returns-in-4 c = c.from.ensures ∙ ap bit c.falls.ensures ∙ head-falls (of_model c.args.shape.model) c.args.shape.height c.args.shape.distance (c.args.i / 32) (c.args.i % 32) c.in-4.is

pub returns-in_default : goal.returns-in_default
returns-in_default c = c.from-in_default.ensures ∙ ap bit c.rises.ensures ∙ head-rises (of_model c.args.shape.model) c.args.shape.height c.args.shape.distance (c.args.i / 32) (c.args.i % 32) (λ e. omega arith) (λ e. omega arith) (λ e. omega arith) (λ e. omega arith) (λ e. omega arith)
