-- THE FRESH WINDOW of a shape in range is well-formed. Assumes nothing.
use Rattle.std.specs.Prelude.{ℕ, ◌*◌, ◌≤◌, ◌<◌, ◌≡◌, Bool, true, ◌&&◌, replicate}
use Rattle.std.proofs.Common.{arith, ◌∙◌, ap, lt-ltb}
use Rattle.std.proofs.Math.Path.{refl}
use Rattle.std.proofs.Math.Bool.{false, not}
use Rattle.std.proofs.lemmas.List.{length-replicate}
use Rattle.shape.specs.Sizes.{IsShape, boundary, nodes_of, detectors_of, max_nodes, max_detectors}
use Rattle.shape.specs.Ranges.{Ranged}
use Rattle.shape.proofs.Ranges.{ranged}
use Rattle.shape.specs.Nodes.{number_of, place_at}
use Rattle.steps.specs.Steps.{Table, slot_in}
use Rattle.shape.specs.declared.Shape.{Shape}
use Rattle.window.specs.LawsLists.{length_over, get_or-same}
use Rattle.window.specs.Window.{alone, unused}
use Rattle.window.specs.Fresh.{slots_of, fresh_window}
use Rattle.window.specs.Formed.{is_empty, unused_node, defect_fits, well_formed}
use Rattle.window.specs.declared.Stage.{Stage}
use Rattle.window.specs.declared.Stage.TheVariants.{Rest}
use Rattle.closure.specs.Lists.{all-over, all_drop, other}
use Rattle.closure.specs.Sized.{Sized, size-le}
use Rattle.closure.specs.Facts.{own-lt, Fits, Slot, Facts, centre, formed, no-defect}
use Rattle.closure.specs.After.{fresh_at}

-- a cluster of its own fits in every stage
pub alone-fits : (T : Table) (stage : Stage) (h d there led : ℕ) → Ranged h d → (g : ℕ) → g < nodes_of h d → (x : Bool) → defect_fits d (place_at h d g) x ≡ true
    → (there ≤ (place_at h d g).depth → x ≡ false) → Fits T stage h d there led (place_at h d g) (alone (number_of h d (place_at h d g)) x)
alone-fits T stage h d there led r g l x e a =
    record { mark = lt-ltb _ _ (own-lt h d r g l); pointer = centre refl; defect = e; absent = λ m. ap (alone (number_of h d (place_at h d g))) (a m) }

-- an empty slot, with an edge or without
pub empty : (there : Bool) (n : ℕ) (c : Bool) → n ≡ 0 → c ≡ false → Slot there n c
empty there n c e f = record { most = omega arith; used = other there (is_empty n && not c) (rw (e, f)) }

module _ (T : Table) (sh : Shape) (range : IsShape sh) where
  fresh-facts : Facts T (fresh_window T sh)
  unfolding fresh_window
  fresh-facts =
      let h = sh.height in
      let d = sh.distance in
      let r = ranged h d range.sizes in
      record {
        ranged = r;
        model = range.model;
        next = omega arith;
        nodes = λ g l. rw (fresh_at T sh g l) (alone-fits T Rest h d _ _ r g l false (no-defect (boundary d (place_at h d g).column)) (λ m. refl));
        slots = λ g kind l m. empty _ _ _ (get_or-same {A = ℕ} 0 (slots_of T) (slot_in (nodes_of h d) kind g)) (get_or-same false (slots_of T) (slot_in (nodes_of h d) kind g));
        unused_nodes = all-over unused_node (λ i. alone (number_of h d (place_at h d i)) false) (nodes_of h d) (replicate max_nodes unused) (all_drop unused_node unused refl (nodes_of h d) max_nodes);
        unused_growth = all_drop {A = ℕ} is_empty 0 refl (T.kinds * nodes_of h d) (slots_of T);
        unused_correction = all_drop not false refl (T.kinds * nodes_of h d) (slots_of T);
        unused_measured = all_drop not false refl (detectors_of h d) max_detectors;
      }

  pub fresh : well_formed T (fresh_window T sh) ≡ true
  fresh = formed T (fresh_window T sh) fresh-facts

pub fresh-sized : (T : Table) (sh : Shape) → Sized T (fresh_window T sh)
unfolding fresh_window
fresh-sized T sh =
    let h = sh.height in
    let d = sh.distance in
    let n = length-replicate max_nodes unused in
    record {
      nodes = length_over (λ i. alone (number_of h d (place_at h d i)) false) (replicate max_nodes unused) (nodes_of h d) (rw n (size-le (fresh_window T sh))) ∙ n;
      growth = length-replicate {A = ℕ} (slots_of T) 0;
      correction = length-replicate (slots_of T) false;
      measured = length-replicate max_detectors false;
    }
