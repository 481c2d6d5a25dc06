-- WHEN NOTHING LEAVES with a round, by entries of the bottom sheet. Assumes nothing.
use Rattle.std.specs.Prelude.{ℕ, ◌+◌, ◌-◌, ◌*◌, Bool, ◌&&◌, not, List, get_or}
use Rattle.window.specs.Lists.{every, any}
use Rattle.flat.specs.Codes.{defect_of, correction_of}
use Rattle.flat.specs.Entries.{plane}
use Rattle.flat.specs.declared.Sizes.{Sizes}

abbrev pub bottom_of : Sizes → ℕ
bottom_of z = 512 + z.nodes - z.sheet

-- none of a kind is corrected
abbrev pub blank_of : Sizes → List ℕ → ℕ → Bool
blank_of z edges kind = not (any z.sheet (λ i. correction_of (get_or edges (kind * plane + bottom_of z + i) 0)))

abbrev pub quiet_of : Sizes → List ℕ → Bool
quiet_of z nodes = not (any z.sheet (λ i. defect_of (get_or nodes (bottom_of z + i) 0)))

abbrev pub still : Sizes → List ℕ → List ℕ → Bool
still z nodes edges = quiet_of z nodes && every z.kinds (blank_of z edges)
