-- WHAT LEAVES WITH A ROUND, by entries: the bottom layer's correction bits and the bottom sheet's defects. Assumes nothing.
use Rattle.std.specs.Prelude.{ℕ, ◌+◌, ◌-◌, ◌*◌, ◌/◌, ◌%◌, List, get_or}
use Rattle.shape.specs.Sizes.{detectors_of}
use Rattle.window.specs.Lists.{by_place, bit}
use Rattle.flat.specs.Codes.{defect_of, correction_of}
use Rattle.flat.specs.Plan.{place_in}
use Rattle.flat.specs.declared.Sizes.{Sizes}

-- m edges, by their numbers
abbrev pub committed_in : List ℕ → List ℕ → ℕ → List ℕ
committed_in table edges m = by_place m (λ i. bit (correction_of (get_or edges (place_in table i) 0)))

-- where the ith detector of a sheet stands in it, row by row
abbrev pub detector_in : ℕ → ℕ → ℕ
detector_in d i = i / (d - 1) * (d + 1) + (i % (d - 1) + 1)

abbrev pub escaped_in : Sizes → ℕ → ℕ → List ℕ → List ℕ
escaped_in z h d nodes = by_place (detectors_of h d) (λ i. bit (defect_of (get_or nodes (512 + z.nodes - z.sheet + detector_in d i) 0)))
