-- What a shape's layout says of the shape that it is made for. Assumes nothing.
use Rattle.std.specs.Prelude.{◌≡◌, true}
use Rattle.std.proofs.Common.{subst}
use Rattle.shape.specs.Sizes.{in_range}
use Rattle.shape.specs.declared.Shape.{Shape}
use Rattle.steps.specs.Models.{of_model}
use Rattle.plan.specs.Table.{sizes_of}
use Rattle.plan.specs.Filled.{Filled}
use Rattle.plan.specs.declared.shape_layout.ShapeLayout.{ShapeLayout}

module _ (laid : ShapeLayout) (sh : Shape) (same : laid.shape ≡ sh) where
  pub sizes-for : laid.layout.sizes ≡ sizes_of (of_model sh.model) sh.height sh.distance
  sizes-for = subst (λ (o : Shape). laid.layout.sizes ≡ sizes_of (of_model o.model) o.height o.distance) same laid.sizes

  pub filled-for : Filled (of_model sh.model) sh.height sh.distance laid.layout.table
  filled-for = subst (λ (o : Shape). Filled (of_model o.model) o.height o.distance laid.layout.table) same laid.filled

  pub range-for : in_range sh.height sh.distance ≡ true
  range-for = subst (λ (o : Shape). in_range o.height o.distance ≡ true) same laid.range
