-- What is made of the shape that a height, a distance and a model name, from the bytes that stand for them. Assumes nothing.
use Rattle.std.specs.Prelude.{ℕ, ◌<◌, ◌≡◌, refl, Bool, true, false, ◌&&◌, List, [], ◌∷◌, ltb, leb, length}
use Rattle.std.proofs.Common.{sym, ◌∙◌, ap, arith, ltb-false}
use Rattle.std.proofs.Math.Bool.{and-false}
use Rattle.std.proofs.lemmas.Bool.{lt-leb}
use Rattle.refusal.specs.Answer.{Answer, done, ended, refused, refused_at, turned, unless, value_or, itself}
use Rattle.refusal.specs.Laws.{turned-not, value_not}
use Rattle.refusal.specs.Writing.{writing}
use Rattle.refusal.specs.declared.Refusal.{Refusal}
use Rattle.list.specs.Sheet.{listed, are_bits, read_into}
use Rattle.shape.specs.Choice.{whether, if-true, if-false}
use Rattle.shape.specs.Sizes.{max_height, max_distance, height_ok, distance_ok, model_ok, shape_by, shape_of, size_by, detectors_of, layer_edges_of}
use Rattle.shape.specs.declared.Shape.{Shape}
use Rattle.record.specs.Records.{Result, header, result, round_at, result_at}
use Rattle.record.specs.Calls.{defects_test, edges_test, escapes_test, read_into_both, write_header, read_round, write_round, read_result, write_result}
use Rattle.named.specs.Named.{none, clip}

-- SIZES

module _ (height distance model : ℕ) where
  pub shape-done : {sh : Shape} → done sh 0 ≡ shape_of height distance model → sh ≡ value_or (shape_of height distance model) itself none
  shape-done e = ap (λ (a : Answer Shape). value_or a itself none) e

  pub shape-turned : (f : Refusal) → turned f ≡ shape_of height distance model → none ≡ value_or (shape_of height distance model) itself none
  shape-turned f e = sym (value_not (turned f) itself none (turned-not Shape f)) ∙ ap (λ (a : Answer Shape). value_or a itself none) e

by_value : {A : Type 0} (a : Answer A) (of : A → ℕ) (other : A) → of (value_or a itself other) ≡ value_or a of (of other)
by_value (done v next) of other = refl
by_value ended of other = refl
by_value (refused n) of other = refl
by_value (refused_at n at) of other = refl

pub sized : (height distance model : ℕ) (of : Shape → ℕ) {sh : Shape} {n : ℕ} → n ≡ of sh
    → sh ≡ value_or (shape_of height distance model) itself none → of none ≡ 0 → n ≡ size_by of height distance model
sized height distance model of e k z =
    e
    ∙ ap of k
    ∙ by_value (shape_of height distance model) of none
    ∙ ap (λ (other : ℕ). value_or (shape_of height distance model) of other) z

-- BYTES: a shape that no bytes hold is refused as the one that stands for it is

over : (most n : ℕ) → most < 256 → ltb n 256 ≡ false → leb n most ≡ false
over most n l e = lt-leb n most (omega (arith, ltb-false n 256 e))

past : (least most n : ℕ) → most < 256 → ltb n 256 ≡ false → (leb least n && leb n most) ≡ false
past least most n l e = ap (λ (b : Bool). leb least n && b) (over most n l e) ∙ and-false (leb least n)

-- what is made of a shape by its three tests; where one fails, the shape does not matter
module _ {X : Type 0} (by : Bool → Bool → Bool → Shape → X)
    (low : (b c : Bool) (x y : Shape) → by false b c x ≡ by false b c y)
    (narrow : (c : Bool) (x y : Shape) → by true false c x ≡ by true false c y)
    (unknown : (x y : Shape) → by true true false x ≡ by true true false y) where
  abbrev named : ℕ → ℕ → ℕ → X
  named h d m = by (height_ok h) (distance_ok d) (model_ok m) (shape_by h d m)

  no_distance : (a c : Bool) (x y : Shape) → by a false c x ≡ by a false c y
  no_distance true c x y = narrow c x y
  no_distance false c x y = low false c x y

  no-model : (a b : Bool) (x y : Shape) → by a b false x ≡ by a b false y
  no-model true true x y = unknown x y
  no-model true false x y = narrow false x y
  no-model false b x y = low b false x y

  clip-model : (h d m : ℕ) → named h d (clip m) ≡ named h d m
  clip-model h d m =
      whether (ltb m 256)
      (λ e. ap (λ (k : ℕ). named h d k) (if-true (ltb m 256) m 255 e))
      (λ e. ap (λ (k : ℕ). named h d k) (if-false (ltb m 256) m 255 e)
      ∙ no-model (height_ok h) (distance_ok d) (shape_by h d 255) (shape_by h d m)
      ∙ sym (ap (λ (b : Bool). by (height_ok h) (distance_ok d) b (shape_by h d m)) (over 1 m (omega arith) e)))

  clip-distance : (h d m : ℕ) → named h (clip d) m ≡ named h d m
  clip-distance h d m =
      whether (ltb d 256)
      (λ e. ap (λ (k : ℕ). named h k m) (if-true (ltb d 256) d 255 e))
      (λ e. ap (λ (k : ℕ). named h k m) (if-false (ltb d 256) d 255 e)
      ∙ no_distance (height_ok h) (model_ok m) (shape_by h 255 m) (shape_by h d m)
      ∙ sym (ap (λ (b : Bool). by (height_ok h) b (model_ok m) (shape_by h d m)) (past 2 max_distance d (omega arith) e)))

  clip-height : (h d m : ℕ) → named (clip h) d m ≡ named h d m
  clip-height h d m =
      whether (ltb h 256)
      (λ e. ap (λ (k : ℕ). named k d m) (if-true (ltb h 256) h 255 e))
      (λ e. ap (λ (k : ℕ). named k d m) (if-false (ltb h 256) h 255 e)
      ∙ low (distance_ok d) (model_ok m) (shape_by 255 d m) (shape_by h d m)
      ∙ sym (ap (λ (b : Bool). by b (distance_ok d) (model_ok m) (shape_by h d m)) (past 1 max_height h (omega arith) e)))

  clipped : (h d m : ℕ) → named (clip h) (clip d) (clip m) ≡ named h d m
  clipped h d m = clip-height h (clip d) (clip m) ∙ clip-distance h d (clip m) ∙ clip-model h d m

module _ (h d m : ℕ) {sh : Shape} (e : sh ≡ shape_by (clip h) (clip d) (clip m)) where
  by_bytes : {X : Type 0} (by : Shape → X) → by (shape_by (clip h) (clip d) (clip m)) ≡ by (shape_by h d m) → by sh ≡ by (shape_by h d m)
  by_bytes by k = ap by e ∙ k

  pub header-written : (out : List ℕ) (at : ℕ) → write_header sh out at ≡ write_header (shape_by h d m) out at
  header-written out at =
      by_bytes (λ (sh : Shape). write_header sh out at)
      (clipped (λ (a b c : Bool) (sh : Shape). writing ((a, 1) ∷ (b, 2) ∷ (c, 31) ∷ (leb at (length out), 10) ∷ []) out at (header sh))
      (λ b c x y. refl) (λ c x y. refl) (λ x y. refl) h d m)

  pub round-read : (src : List ℕ) (at : ℕ) (defects : List ℕ) → read_round sh src at defects ≡ read_round (shape_by h d m) src at defects
  round-read src at defects =
      by_bytes (λ (sh : Shape). read_round sh src at defects)
      (clipped (λ (a b c : Bool) (sh : Shape).
      read_into (unless ((a, 1) ∷ (b, 2) ∷ (c, 31) ∷ (leb at (length src), 10) ∷ defects_test sh defects ∷ []) (round_at src (detectors_of sh.height sh.distance) at)) defects)
      (λ b c x y. refl) (λ c x y. refl) (λ x y. refl) h d m)

  pub round-written : (defects out : List ℕ) (at : ℕ) → write_round sh defects out at ≡ write_round (shape_by h d m) defects out at
  round-written defects out at =
      by_bytes (λ (sh : Shape). write_round sh defects out at)
      (clipped (λ (a b c : Bool) (sh : Shape).
      writing ((a, 1) ∷ (b, 2) ∷ (c, 31) ∷ (leb at (length out), 10) ∷ defects_test sh defects ∷ (are_bits defects, 4) ∷ []) out at (listed defects))
      (λ b c x y. refl) (λ c x y. refl) (λ x y. refl) h d m)

  pub result-read : (src : List ℕ) (at : ℕ) (edges escapes : List ℕ) → read_result sh src at edges escapes ≡ read_result (shape_by h d m) src at edges escapes
  result-read src at edges escapes =
      by_bytes (λ (sh : Shape). read_result sh src at edges escapes)
      (clipped (λ (a b c : Bool) (sh : Shape).
      read_into_both
      (unless ((a, 1) ∷ (b, 2) ∷ (c, 31) ∷ (leb at (length src), 10) ∷ edges_test sh edges ∷ escapes_test sh escapes ∷ [])
      (result_at src (layer_edges_of sh.model sh.height sh.distance) (detectors_of sh.height sh.distance) at))
      edges
      escapes)
      (λ b c x y. refl) (λ c x y. refl) (λ x y. refl) h d m)

  pub result-written : (r : Result) (out : List ℕ) (at : ℕ) → write_result sh r out at ≡ write_result (shape_by h d m) r out at
  result-written r out at =
      by_bytes (λ (sh : Shape). write_result sh r out at)
      (clipped (λ (a b c : Bool) (sh : Shape).
      writing
      ((a, 1) ∷ (b, 2) ∷ (c, 31) ∷ (leb at (length out), 10) ∷ edges_test sh r.edges ∷ escapes_test sh r.escapes ∷ (are_bits r.edges, 4) ∷ (are_bits r.escapes, 4) ∷ [])
      out
      at
      (result r))
      (λ b c x y. refl) (λ c x y. refl) (λ x y. refl) h d m)
