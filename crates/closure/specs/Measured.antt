-- A REPLACED SHEET keeps a window well-formed. Assumes nothing.
use Rattle.std.specs.Prelude.{ℕ, ◌≡◌, refl, true, List, length, drop, replicate}
use Rattle.std.proofs.Common.{arith, ◌∙◌}
use Rattle.std.proofs.Math.Path.{subst}
use Rattle.std.proofs.Math.Bool.{false, not}
use Rattle.std.proofs.Math.ListN.{length-replicate}
use Rattle.shape.specs.Sizes.{detectors_of, max_detectors}
use Rattle.shape.proofs.LawsSizes.{detectors-le}
use Rattle.steps.specs.Steps.{Table}
use Rattle.window.specs.Lists.{all}
use Rattle.window.specs.LawsLists.{length_over}
use Rattle.window.specs.Formed.{well_formed}
use Rattle.window.specs.Measured.{is_set, as_sheet, measuring}
use Rattle.window.specs.declared.Window.{Window}
use Rattle.closure.specs.Lists.{all-over, all_drop}
use Rattle.closure.specs.Sized.{Sized}
use Rattle.closure.specs.Facts.{Facts, facts, formed}

-- behind the bytes nothing is set
sheet-unused : (bytes : List ℕ) → all not (drop (length bytes) (as_sheet bytes)) ≡ true
unfolding as_sheet
sheet-unused bytes = all-over not (is_set bytes) (length bytes) (replicate max_detectors false) (all_drop not false refl (length bytes) max_detectors)

module _ (T : Table) (w : Window) (bytes : List ℕ) (long : length bytes ≡ detectors_of w.shape.height w.shape.distance) where
  measured-facts : Facts T w → Facts T (measuring w bytes)
  unfolding measuring
  measured-facts f =
      record {
        ranged = f.ranged;
        model = f.model;
        next = f.next;
        nodes = f.nodes;
        slots = f.slots;
        unused_nodes = f.unused_nodes;
        unused_growth = f.unused_growth;
        unused_correction = f.unused_correction;
        unused_measured = subst (λ (n : ℕ). all not (drop n (as_sheet bytes)) ≡ true) long (sheet-unused bytes);
      }

  pub measure : well_formed T w ≡ true → well_formed T (measuring w bytes) ≡ true
  measure e = formed T (measuring w bytes) (measured-facts (facts T w e))

  pub measure-sized : well_formed T w ≡ true → Sized T w → Sized T (measuring w bytes)
  unfolding measuring as_sheet
  measure-sized e s =
      let n = length-replicate max_detectors false in
      let l = detectors-le w.shape.height w.shape.distance (facts T w e).ranged in
      record {
        nodes = s.nodes;
        growth = s.growth;
        correction = s.correction;
        measured = length_over (is_set bytes) (replicate max_detectors false) (length bytes) (omega arith) ∙ n;
      }
