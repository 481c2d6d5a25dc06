-- `plan::fresh_kinds` meets its contract. Assumes nothing.
use native.Mathlib.Omega.{arith}
use Rattle.plan.specs.Passes.{passes_none, passes-next}
use Rattle.plan.specs.Table.{fresh_on}
use Rattle.steps.specs.Models.{of_model}
use Rattle.plan.specs.Limits.{roomy-model}
use Rattle.plan.proofs.fresh_kinds.Goals as goal

pub loop-kind-init : goal.loop-kind-init
loop-kind-init c = passes_none (fresh_on (of_model c.args.shape.model) c.args.shape.height c.args.shape.distance) c.args.table.now

pub fresh_kind-requires-clause-kind_bound : goal.fresh_kind-requires-clause-kind_bound
fresh_kind-requires-clause-kind_bound c = omega (arith, c.loop-kind-test.true, c.kinds-kind-end.ensures, (roomy-model c.args.shape.model).kinds)

pub loop-kind-preserved : goal.loop-kind-preserved
loop-kind-preserved c = let l = c.loop-kind in passes-next (fresh_on (of_model c.args.shape.model) c.args.shape.height c.args.shape.distance) c.args.table.now l.kind l.table _ l.invariant c.fresh_kind.ensures
