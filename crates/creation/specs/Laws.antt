-- What the answer of a creation tells of its shape and its limits. Assumes nothing.
use Rattle.std.specs.Prelude.{ℕ, ◌≡◌}
use Rattle.shape.specs.Sizes.{IsShape, shape_by}
use Rattle.shape.specs.declared.Shape.{Shape}

-- A SHAPE THAT IS ALLOWED is one, and the named one
pub record Allowed (h d m : ℕ) (sh : Shape) : Type 0 where
  pub range : IsShape (shape_by h d m)
  pub same : shape_by h d m ≡ sh
