-- The definitions that go by tests, at each outcome of the tests. Assumes nothing.
use Rattle.std.specs.Prelude.{ℕ, ◌-◌, ◌≤◌, ◌<◌, ◌≡◌, Bool, true, false, [], ◌∷◌}
use Rattle.std.proofs.Common.{sym, ap, ◌∙◌, lt-ltb, le-ltb}
use Rattle.refusal.specs.Answer.{Answer, refused, unless}
use Rattle.shape.specs.Choice.{if-true, if-false}
use Rattle.shape.specs.Sizes.{height_ok, distance_ok, model_ok, shape_tests, boundary}
use Rattle.shape.specs.Nodes.{number_of, boundary_number, detector_number, place_in, place_of, boundary_nodes, sided, inner}
use Rattle.shape.specs.declared.Place.{Place}

module _ {A : Type 0} (h d m : ℕ) (a : Answer A) where
  pub no-height : height_ok h ≡ false → refused 1 ≡ unless (shape_tests h d m) a
  no-height e = sym (ap (λ (x : Bool). unless ((x, 1) ∷ (distance_ok d, 2) ∷ (model_ok m, 31) ∷ []) a) e)

  pub no_distance : height_ok h ≡ true → distance_ok d ≡ false → refused 2 ≡ unless (shape_tests h d m) a
  no_distance e f =
      sym (ap (λ (x : Bool). unless ((x, 1) ∷ (distance_ok d, 2) ∷ (model_ok m, 31) ∷ []) a) e
      ∙ ap (λ (x : Bool). unless ((true, 1) ∷ (x, 2) ∷ (model_ok m, 31) ∷ []) a) f)

  in_both : height_ok h ≡ true → distance_ok d ≡ true → (x : Bool) → model_ok m ≡ x → unless (shape_tests h d m) a ≡ unless ((x, 31) ∷ []) a
  in_both e f x g =
      ap (λ (x : Bool). unless ((x, 1) ∷ (distance_ok d, 2) ∷ (model_ok m, 31) ∷ []) a) e
      ∙ ap (λ (x : Bool). unless ((x, 2) ∷ (model_ok m, 31) ∷ []) a) f
      ∙ ap (λ (x : Bool). unless ((x, 31) ∷ []) a) g

  pub no-model : height_ok h ≡ true → distance_ok d ≡ true → model_ok m ≡ false → refused 31 ≡ unless (shape_tests h d m) a
  no-model e f g = sym (in_both e f false g)

  pub fine : height_ok h ≡ true → distance_ok d ≡ true → model_ok m ≡ true → a ≡ unless (shape_tests h d m) a
  fine e f g = sym (in_both e f true g)

module _ (h d : ℕ) (q : Place) where
  pub number-side : boundary d q.column ≡ true → number_of h d q ≡ boundary_number h q
  unfolding number_of
  number-side e = if-true _ _ _ e

  pub number-inner : boundary d q.column ≡ false → number_of h d q ≡ detector_number h d q
  unfolding number_of
  number-inner e = if-false _ _ _ e

module _ (h d n : ℕ) where
  pub place-side : n < boundary_nodes h d → place_of h d n ≡ sided d (place_in h 2 n)
  unfolding place_of
  place-side l = if-true _ _ _ (lt-ltb n (boundary_nodes h d) l)

  pub place-inner : boundary_nodes h d ≤ n → place_of h d n ≡ inner (place_in h (d - 1) (n - boundary_nodes h d))
  unfolding place_of
  place-inner l = if-false _ _ _ (le-ltb n (boundary_nodes h d) l)
