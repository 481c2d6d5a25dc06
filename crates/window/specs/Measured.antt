-- RAW MEASUREMENTS: the check values as they were measured, one byte a detector, row by row. Assumes nothing.
use Rattle.std.specs.Prelude.{ℕ, Bool, false, List, eqb, length, get_or, replicate}
use Rattle.shape.specs.Sizes.{max_detectors}
use Rattle.window.specs.Lists.{by_place, over, bit, xor}
use Rattle.window.specs.declared.Window.{Window}

abbrev pub is_set : List ℕ → ℕ → Bool
is_set bytes i = eqb (get_or bytes i 0) 1

abbrev pub differs : List Bool → List ℕ → ℕ → Bool
differs sheet bytes i = xor (is_set bytes i) (get_or sheet i false)

-- the new defects are the places where the bytes differ from the last measured sheet
unfoldable pub differences : List Bool → List ℕ → List ℕ
differences sheet bytes = by_place (length bytes) (λ i. bit (differs sheet bytes i))

-- the bytes as a sheet: a bit a detector, row by row; the entries behind them are unused and false. The sheet of no bytes is all zero
unfoldable pub as_sheet : List ℕ → List Bool
as_sheet bytes = over (length bytes) (is_set bytes) (replicate max_detectors false)

-- another sheet; all else stays
abbrev pub with_sheet : Window → List Bool → Window
with_sheet w sheet =
    record {
      shape = w.shape;
      stage = w.stage;
      next = w.next;
      nodes = w.nodes;
      growth = w.growth;
      correction = w.correction;
      measured = sheet;
    }

-- then the sheet is the bytes
unfoldable pub measuring : Window → List ℕ → Window
measuring w bytes = with_sheet w (as_sheet bytes)
