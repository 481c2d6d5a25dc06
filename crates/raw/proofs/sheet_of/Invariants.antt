-- `raw::sheet_of` meets its contract: the bytes passed are in the sheet. Assumes nothing.
use mathlib.Core.Path.{◌≡◌}
use mathlib.Core.Bool.{Bool, false}
use mathlib.Core.List.{List}
use lib.ListN.{replicate}
use Rattle.shape.specs.Sizes.{max_detectors}
use Rattle.window.specs.Lists.{over}
use Rattle.window.specs.Measured.{is_set}
use Rattle.raw.proofs.sheet_of.Given as goal

abbrev pub empty : List Bool
empty = replicate max_detectors false

abbrev pub invariant-loop-i : goal.invariant-loop-i
invariant-loop-i l = l.sheet ≡ over l.i (is_set l.bytes) empty
