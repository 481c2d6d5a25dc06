-- Creations by value: the refusals in their order, and limits at their edges. Assumes nothing.
use Rattle.std.specs.Prelude.{◌≡◌}
use Rattle.refusal.specs.Answer.{done, refused}
use Rattle.shape.specs.Sizes.{shape_by}
use Rattle.creation.specs.Creation.{allowed_shape}

pub record Witness : Type 0 where
  -- the rack's limits, the console's, and the smallest that allow a shape
  pub rack : allowed_shape 15 15 1 15 15 ≡ done (shape_by 15 15 1) 0
  pub console : allowed_shape 7 7 0 7 7 ≡ done (shape_by 7 7 0) 0
  pub smallest : allowed_shape 1 2 0 1 2 ≡ done (shape_by 1 2 0) 0
  -- over one limit, or the other
  pub high : allowed_shape 8 7 0 7 7 ≡ refused 32
  pub wide : allowed_shape 7 8 0 7 7 ≡ refused 32
  -- limits that forbid every shape
  pub no-height : allowed_shape 1 2 0 0 15 ≡ refused 32
  pub no_distance : allowed_shape 1 2 0 15 1 ≡ refused 32
  -- a limit above 15
  pub limit-height-16 : allowed_shape 3 3 0 16 15 ≡ refused 32
  pub limit-distance-16 : allowed_shape 3 3 0 15 16 ≡ refused 32
  -- 1, 2 and 31 come first
  pub height-first : allowed_shape 16 3 2 16 0 ≡ refused 1
  pub distance-first : allowed_shape 3 16 2 0 16 ≡ refused 2
  pub model-first : allowed_shape 8 7 2 7 7 ≡ refused 31
  pub model-first-16 : allowed_shape 3 3 2 16 16 ≡ refused 31
