-- `plan::places` meets its contract. Assumes nothing.
use Rattle.std.proofs.Common.{◌≡◌, ◌+◌}
use Rattle.plan.specs.Passes.{passes}
use Rattle.plan.specs.Table.{places_on}
use Rattle.steps.specs.Models.{of_model}
use Rattle.layers.specs.Boxes.{areas}
use Rattle.plan.proofs.places.Given as goal

abbrev pub invariant-loop-kind : goal.invariant-loop-kind
invariant-loop-kind l = (l.start ≡ 6144 + areas (of_model l.shape.model) l.shape.height l.shape.distance l.kind) × (l.table ≡ passes (places_on (of_model l.shape.model) l.shape.height l.shape.distance l.bottom) l.kind l.initial.table)
