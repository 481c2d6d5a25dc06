-- A creation that is done: the shape is one, and the window is its fresh one. Assumes nothing.
use Rattle.std.specs.Prelude.{ℕ, ◌≡◌}
use Rattle.shape.specs.Sizes.{IsShape, shape_by}
use Rattle.steps.specs.Steps.{Table}
use Rattle.window.specs.Fresh.{fresh_window}
use Rattle.window.specs.declared.Window.{Window}

pub record Started (T : Table) (height distance model : ℕ) (w : Window) : Type 0 where
  pub range : IsShape (shape_by height distance model)
  pub value : fresh_window T (shape_by height distance model) ≡ w
