-- A CREATION'S ANSWER IN PLAIN NUMBERS, for all of them. Assumes nothing.
use Rattle.std.specs.Prelude.{ℕ, ◌≤◌, ◌≡◌, refl, Bool, true, false, ◌⊎◌, leb}
use Rattle.std.proofs.Common.{arith, sym, ⊎_elim, leb-true, le-leb}
use Rattle.refusal.specs.Answer.{done, refused}
use Rattle.shape.proofs.Cases.{no-height, no_distance, no-model}
use Rattle.shape.specs.Choice.{whether}
use Rattle.shape.specs.Ranges.{Ranged}
use Rattle.shape.proofs.Ranges.{halves, both, height-ok, distance-ok, model-ok, in-range, shape-accepted}
use Rattle.shape.specs.Sizes.{max_height, max_distance, height_ok, distance_ok, model_ok, IsShape, shape_by}
use Rattle.creation.specs.Creation.{limits_ok, within_limits, limits_allow}
use Rattle.creation.proofs.Laws.{shape-first, limits-decide}
use Rattle.creation.specs.Plain.{Plain}

-- THE PROOF

-- a test that cannot pass fails
fails_by : (b : Bool) → (b ≡ true → ⊥) → b ≡ false
fails_by b never = whether b (λ e. absurd (never e)) (λ e. e)

module _ (h d largest_height largest_distance : ℕ) where
  -- what the limits' test says
  record Within : Type 0 where
    height-most : largest_height ≤ max_height
    distance_most : largest_distance ≤ max_distance
    height : h ≤ largest_height
    distance : d ≤ largest_distance

  within : limits_allow h d largest_height largest_distance ≡ true → Within
  within e =
      let x = halves (limits_ok largest_height largest_distance) (within_limits h d largest_height largest_distance) e in
      let a = halves (leb largest_height max_height) (leb largest_distance max_distance) x.0 in
      let b = halves (leb h largest_height) (leb d largest_distance) x.1 in
      record {
        height-most = leb-true largest_height max_height a.0;
        distance_most = leb-true largest_distance max_distance a.1;
        height = leb-true h largest_height b.0;
        distance = leb-true d largest_distance b.1;
      }

  allow : Within → limits_allow h d largest_height largest_distance ≡ true
  allow w =
      both _ _
      (both _ _ (le-leb largest_height max_height w.height-most) (le-leb largest_distance max_distance w.distance_most))
      (both _ _ (le-leb h largest_height w.height) (le-leb d largest_distance w.distance))

height-passes : (h : ℕ) → 1 ≤ h → h ≤ max_height → height_ok h ≡ true
height-passes h a b = both (leb 1 h) (leb h max_height) (le-leb 1 h a) (le-leb h max_height b)

-- a shape, by its numbers
is-shape : (h d m : ℕ) → Ranged h d → m ≤ 1 → IsShape (shape_by h d m)
is-shape h d m r l = record { sizes = in-range h d r; model = le-leb m 1 l }

pub plain : (h d m largest_height largest_distance : ℕ) → Plain h d m largest_height largest_distance
plain h d m largest_height largest_distance =
    record {
      height = λ o.
          shape-first h d m largest_height largest_distance (refused 1) refl
          (sym (no-height h d m (done (shape_by h d m) 0) (fails_by (height_ok h) (λ e. let x = height-ok h e in ⊎_elim (λ l. omega arith) (λ l. omega arith) o))));
      distance = λ a b o.
          shape-first h d m largest_height largest_distance (refused 2) refl
          (sym (no_distance h d m (done (shape_by h d m) 0) (height-passes h a b)
          (fails_by (distance_ok d) (λ e. let x = distance-ok d e in ⊎_elim (λ l. omega arith) (λ l. omega arith) o))));
      model = λ r l.
          shape-first h d m largest_height largest_distance (refused 31) refl
          (sym (no-model h d m (done (shape_by h d m) 0) (height-passes h r.h1 r.h-max) (halves (height_ok h) (distance_ok d) (in-range h d r)).1
          (fails_by (model_ok m) (λ e. let x = model-ok m e in omega arith))));
      limit = λ r l o.
          limits-decide h d m largest_height largest_distance (shape_by h d m) 0 (shape-accepted (shape_by h d m) (is-shape h d m r l)) false
          (fails_by (limits_allow h d largest_height largest_distance) (λ e. let w = within h d largest_height largest_distance e in
          ⊎_elim (λ k. omega arith) (λ o. ⊎_elim (λ k. omega arith) (λ o. ⊎_elim (λ k. omega arith) (λ k. omega arith) o) o) o));
      allowed = λ r l a b c k.
          limits-decide h d m largest_height largest_distance (shape_by h d m) 0 (shape-accepted (shape_by h d m) (is-shape h d m r l)) true
          (allow h d largest_height largest_distance (record { height-most = a; distance_most = b; height = c; distance = k }));
    }
