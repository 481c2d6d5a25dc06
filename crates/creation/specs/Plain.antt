-- A CREATION'S ANSWER IN PLAIN NUMBERS, for all of them. Assumes nothing.
use Rattle.std.specs.Prelude.{ℕ, ◌≤◌, ◌<◌, ◌≡◌, ◌⊎◌}
use Rattle.refusal.specs.Answer.{done, refused}
use Rattle.shape.specs.Ranges.{Ranged}
use Rattle.shape.specs.Sizes.{max_height, max_distance, shape_by}
use Rattle.creation.specs.Creation.{allowed_shape}

-- THE STATEMENT. A height, a distance, a model, and the limits of a caller
pub record Plain (h d m largest_height largest_distance : ℕ) : Type 0 where
  -- the height is not 1 to 15
  pub height : (h < 1) ⊎ (max_height < h) → allowed_shape h d m largest_height largest_distance ≡ refused 1
  -- it is, and the distance is not 2 to 15
  pub distance : 1 ≤ h → h ≤ max_height → (d < 2) ⊎ (max_distance < d) → allowed_shape h d m largest_height largest_distance ≡ refused 2
  -- both are, and the model is not 0 or 1
  pub model : Ranged h d → 1 < m → allowed_shape h d m largest_height largest_distance ≡ refused 31
  -- it is a shape, and a limit is above 15, or the shape is over a limit
  pub limit : Ranged h d → m ≤ 1 → (max_height < largest_height) ⊎ (max_distance < largest_distance) ⊎ (largest_height < h) ⊎ (largest_distance < d)
      → allowed_shape h d m largest_height largest_distance ≡ refused 32
  -- and else it is allowed
  pub allowed : Ranged h d → m ≤ 1 → largest_height ≤ max_height → largest_distance ≤ max_distance → h ≤ largest_height → d ≤ largest_distance
      → allowed_shape h d m largest_height largest_distance ≡ done (shape_by h d m) 0
