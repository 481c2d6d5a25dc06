-- The two kinds of round, of the input and of the result, each there and back by itself. Assumes nothing.
use Rattle.std.specs.Prelude.{ℕ, List}
use Rattle.refusal.specs.Answer.{Answer}
use Rattle.list.specs.Sheet.{list_at}
use Rattle.shape.specs.declared.Shape.{Shape}
use Rattle.trip.specs.Fits.{detectors_in}

-- A ROUND OF THE INPUT

abbrev pub round_from : List ℕ → Shape → ℕ → Answer (List ℕ)
round_from s sh at = list_at s (detectors_in sh) at
