-- The detectors of a sheet, row by row, stand in the sheet. Assumes nothing.
use Rattle.std.specs.Prelude.{ℕ, ◌+◌, ◌-◌, ◌/◌, ◌%◌, ◌<◌}
use Rattle.std.proofs.Common.{mod-lt, div-lt_iff_lt-mul, arith}
use Rattle.shape.specs.Counting.{Inside}
use Rattle.shape.specs.Ranges.{Ranged}
use Rattle.shape.specs.Sizes.{detectors_of}
use Rattle.window.specs.Round.{detector_at}

module _ (h d : ℕ) (r : Ranged h d) (i : ℕ) (l : i < detectors_of h d) where
  pub width : 0 < d - 1
  width = omega (arith, r.d2)

  pub detector-row : i / (d - 1) < h
  detector-row = (div-lt_iff_lt-mul width).1 l

  pub detector-column : i % (d - 1) + 1 < d
  detector-column = omega (arith, mod-lt i width)

  pub detector-inside : (k depth : ℕ) → depth < k → Inside h d k (detector_at d depth i)
  detector-inside k depth m = record { depth = m; row = detector-row; column = omega (arith, detector-column) }
