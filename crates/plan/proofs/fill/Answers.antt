-- `plan::fill` meets its contract. Assumes nothing.
use Rattle.plan.specs.Filled.{bottom-low, filled-by}
use Rattle.steps.specs.Models.{of_model}
use Rattle.steps.proofs.Models.{suited-model}
use Rattle.plan.specs.Limits.{roomy-model}
use Rattle.plan.proofs.fill.Goals as goal

pub places-requires-clause-bottom_bound : goal.places-requires-clause-bottom_bound
places-requires-clause-bottom_bound c = rw c.sizes-z.ensures (bottom-low c.args.shape.height c.args.shape.distance c.requires.distance_value)

pub returns : goal.returns
returns c = filled-by (of_model c.args.shape.model) (suited-model c.args.shape.model) (roomy-model c.args.shape.model) c.args.shape.height c.args.shape.distance c.requires.distance_value c.sizes-z.result c.args.table.now _ _ _ _
    c.sizes-z.ensures c.requires.table_value c.heads.ensures c.numbers.ensures c.fresh_kinds.ensures c.places.ensures
