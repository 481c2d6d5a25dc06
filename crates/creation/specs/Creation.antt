-- S-6, CREATION: a shape, where the caller's largest height and distance allow it. Assumes nothing.
use Rattle.std.specs.Prelude.{ℕ, Bool, ◌&&◌, List, [], ◌∷◌, ◌++◌, leb}
use Rattle.refusal.specs.Answer.{Answer, done, unless}
use Rattle.shape.specs.Sizes.{max_height, max_distance, shape_tests, shape_by}
use Rattle.shape.specs.declared.Shape.{Shape}

-- no limit is above 15,
abbrev pub limits_ok : (largest_height largest_distance : ℕ) → Bool
limits_ok largest_height largest_distance = leb largest_height max_height && leb largest_distance max_distance

-- and the shape is not over them
abbrev pub within_limits : (height distance largest_height largest_distance : ℕ) → Bool
within_limits height distance largest_height largest_distance = leb height largest_height && leb distance largest_distance

abbrev pub limits_allow : (height distance largest_height largest_distance : ℕ) → Bool
limits_allow height distance largest_height largest_distance = limits_ok largest_height largest_distance && within_limits height distance largest_height largest_distance

-- the tests of a creation: those of a shape (1, 2, 31), and directly after them the limits
abbrev pub creation_tests : (height distance model largest_height largest_distance : ℕ) → List (Bool × ℕ)
creation_tests height distance model largest_height largest_distance =
    shape_tests height distance model ++ ((limits_allow height distance largest_height largest_distance, 32) ∷ [])

abbrev pub allowed_shape : (height distance model largest_height largest_distance : ℕ) → Answer Shape
allowed_shape height distance model largest_height largest_distance =
    unless (creation_tests height distance model largest_height largest_distance) (done (shape_by height distance model) 0)
