-- What the answer of a creation tells of its shape and its limits. Assumes nothing.
use Rattle.std.specs.Prelude.{ℕ, ◌≡◌, refl, Bool, true, false, List, [], ◌∷◌, leb}
use Rattle.std.proofs.Common.{◌∙◌, ap}
use Rattle.refusal.specs.Answer.{Answer, done, ended, refused, refused_at, unless, is_done}
use Rattle.refusal.specs.Holds.{hold-pass, done-holds, not-held}
use Rattle.refusal.specs.Tests.{tests-done, unless-append}
use Rattle.shape.proofs.Ranges.{halves, both}
use Rattle.shape.specs.Sizes.{max_height, max_distance, shape_tests, shape_by, shape_of}
use Rattle.shape.specs.declared.Shape.{Shape}
use Rattle.creation.specs.Creation.{limits_allow, creation_tests, allowed_shape}
use Rattle.creation.specs.Laws.{Allowed}

module _ (h d m largest_height largest_distance : ℕ) where
  abbrev limits_test : List (Bool × ℕ)
  limits_test = (limits_allow h d largest_height largest_distance, 32) ∷ []

  pub allowed-is : (sh : Shape) (n : ℕ) → allowed_shape h d m largest_height largest_distance ≡ done sh n → Allowed h d m sh
  allowed-is sh n e =
      let x = done-holds (creation_tests h d m largest_height largest_distance) (done (shape_by h d m) 0) sh n e in
      record { range = record { sizes = both _ _ x.0.0 x.0.1.0; model = x.0.1.1.0 }; same = tests-done [] (shape_by h d m) sh 0 n x.1 }

  -- BY THE SHAPE'S OWN TESTS: what they refuse is refused so, whatever the limits;
  pub shape-first : (a : Answer Shape) → is_done a ≡ false → shape_of h d m ≡ a → allowed_shape h d m largest_height largest_distance ≡ a
  shape-first a k e =
      unless-append (shape_tests h d m) limits_test (done (shape_by h d m) 0) ∙ not-held (shape_tests h d m) (shape_by h d m) 0 a (unless limits_test (done (shape_by h d m) 0)) k e

  -- of any other the limits decide
  pub limits-decide : (sh : Shape) (n : ℕ) → shape_of h d m ≡ done sh n → (b : Bool) → limits_allow h d largest_height largest_distance ≡ b
      → allowed_shape h d m largest_height largest_distance ≡ unless ((b, 32) ∷ []) (done sh n)
  limits-decide sh n e b l =
      let x = done-holds (shape_tests h d m) (done (shape_by h d m) 0) sh n e in
      unless-append (shape_tests h d m) limits_test (done (shape_by h d m) 0)
      ∙ hold-pass (shape_tests h d m) x.0 Shape (unless limits_test (done (shape_by h d m) 0))
      ∙ ap (λ (a : Answer Shape). unless limits_test a) x.1
      ∙ ap (λ (b : Bool). unless ((b, 32) ∷ []) (done sh n)) l

-- THE LARGEST LIMITS refuse nothing that the shape's own tests let pass
pub largest-limits : (h d m : ℕ) → allowed_shape h d m max_height max_distance ≡ shape_of h d m
largest-limits h d m = go (shape_of h d m) refl
  where
    go : (a : Answer Shape) → shape_of h d m ≡ a → allowed_shape h d m max_height max_distance ≡ a
    go (done sh n) e =
        let x = done-holds (shape_tests h d m) (done (shape_by h d m) 0) sh n e in
        limits-decide h d m max_height max_distance sh n e true
        (both (leb h max_height) (leb d max_distance) (halves (leb 1 h) (leb h max_height) x.0.0).1 (halves (leb 2 d) (leb d max_distance) x.0.1.0).1)
    go ended e = shape-first h d m max_height max_distance ended refl e
    go (refused n) e = shape-first h d m max_height max_distance (refused n) refl e
    go (refused_at n at) e = shape-first h d m max_height max_distance (refused_at n at) refl e
