-- Laws of raw measurements. Assumes nothing.
use Rattle.std.specs.Prelude.{ℕ, ◌<◌, ◌≡◌, Bool, true, false, List, [], eqb, length, get_or, replicate}
use Rattle.std.proofs.Common.{sym, ◌∙◌, ap, ⊎_elim}
use Rattle.std.proofs.Math.ListN.{get_or-eq_default}
use Rattle.shape.specs.Sizes.{max_detectors}
use Rattle.list.specs.Sheet.{are_bits}
use Rattle.shape.specs.Choice.{order}
use Rattle.window.specs.Lists.{bit}
use Rattle.window.specs.LawsLists.{length-by, get_or-by, over_none, over-at, over-later, get_or-same, bits-by}
use Rattle.window.specs.Measured.{is_set, differs, differences, as_sheet}

-- THE DIFFERENCES are the bytes of a round

module _ (sheet : List Bool) (bytes : List ℕ) where
  pub differences-long : length (differences sheet bytes) ≡ length bytes
  unfolding differences
  differences-long = length-by _ (length bytes)

  pub differences-bits : are_bits (differences sheet bytes) ≡ true
  unfolding differences
  differences-bits = bits-by (differs sheet bytes) (length bytes)

  pub difference-at : (i : ℕ) → i < length bytes → get_or (differences sheet bytes) i 0 ≡ bit (differs sheet bytes i)
  unfolding differences
  difference-at i l = get_or-by (λ j. bit (differs sheet bytes j)) (length bytes) i 0 l

-- THE SHEET

pub sheet-none : as_sheet [] ≡ replicate max_detectors false
unfolding as_sheet
sheet-none = over_none _ _

-- behind the bytes nothing is set
pub sheet-at : (bytes : List ℕ) (i : ℕ) → get_or (as_sheet bytes) i false ≡ is_set bytes i
unfolding as_sheet
sheet-at bytes i =
    ⊎_elim (λ l. over-at (is_set bytes) (replicate max_detectors false) (length bytes) i false l)
    (λ l.
    over-later (is_set bytes) (replicate max_detectors false) (length bytes) i false l
    ∙ get_or-same false max_detectors i
    ∙ sym (ap (λ (x : ℕ). eqb x 1) (get_or-eq_default bytes 0 l)))
    (order i (length bytes))
