-- `plan::places` meets its contract. Assumes nothing.
use mathlib.Core.Path.{refl, ◌∙◌, ap}
use Prim.Native.Nat.{ℕ, ◌+◌, ◌*◌}
use native.Mathlib.Omega.{arith}
use Rattle.plan.specs.Passes.{passes_none, passes-next, blocks}
use Rattle.plan.specs.Table.{places_on, place_row}
use Rattle.steps.specs.Models.{of_model}
use Rattle.layers.specs.Boxes.{areas, rows, columns, named}
use Rattle.plan.specs.Limits.{roomy-model, areas-le, areas-next}
use native.Mathlib.Nat.{add_assoc}
use Rattle.plan.proofs.places.Goals as goal

pub loop-kind-init : goal.loop-kind-init
unfolding areas
loop-kind-init c = (refl, passes_none (places_on (of_model c.args.shape.model) c.args.shape.height c.args.shape.distance c.args.bottom) c.args.table.now)

pub places_kind-start-requires-clause-kind_bound : goal.places_kind-start-requires-clause-kind_bound
places_kind-start-requires-clause-kind_bound c = let l = c.loop-kind in
    (omega (arith, c.loop-kind-test.true, c.kinds-kind-end.ensures, (roomy-model c.args.shape.model).kinds), c.requires.bottom_bound, omega (arith, l.invariant.0, areas-le (of_model c.args.shape.model) (roomy-model c.args.shape.model) c.args.shape.height c.args.shape.distance c.requires.distance_value l.kind))

pub loop-kind-preserved : goal.loop-kind-preserved
loop-kind-preserved c = let l = c.loop-kind in let a = c.args in let st = named (of_model a.shape.model) l.kind in let h = a.shape.height in let d = a.shape.distance in (
  c.places_kind-start.ensures.0 ∙ ap (λ (x : ℕ). x + rows h st * columns d st) l.invariant.0 ∙ add_assoc 6144 (areas (of_model a.shape.model) h d l.kind) (rows h st * columns d st) ∙ ap (λ (x : ℕ). 6144 + x) (areas-next (of_model a.shape.model) (roomy-model a.shape.model) h d l.kind),
  passes-next (places_on (of_model a.shape.model) h d a.bottom) a.table.now l.kind l.table _ l.invariant.1
      (c.places_kind-start.ensures.1 ∙ ap (λ (x : ℕ). blocks x (columns d st) (place_row d a.bottom st l.kind) (columns d st) (rows h st) l.table) l.invariant.0),
)
