-- The turns of the loop that looks for what arrives. Assumes nothing.
use Rattle.std.specs.Prelude.{ℕ, suc, ◌+◌, ◌-◌, ◌≤◌, ◌<◌, ◌≡◌, Bool, true, false, eqb}
use native.Mathlib.Omega.{arith}
use Rattle.std.proofs.Common.{ap, ◌∙◌, eq-eqb, ne_eqb}
use Rattle.std.proofs.Math.Path.{sym}
use Rattle.shape.specs.Choice.{if-true, if-false}
use Rattle.window.specs.Lists.{xor}
use Rattle.flat.specs.Codes.{no_edge}
use Rattle.flat.specs.Entries.{over_by}
use Rattle.flat.specs.Plan.{Plan}
use Rattle.flat.specs.Rule.{arrived, pushes_along}

module _ (P : Plan) (defect : ℕ → Bool) (pointer growth : ℕ → ℕ) (x : ℕ) where
  abbrev left : ℕ → ℕ → Bool → Bool
  left k n odd = arrived P defect pointer growth x k n odd

  module _ (k dirs : ℕ) (odd : Bool) (h : k < dirs) where
    rest : dirs - k ≡ suc (dirs - (k + 1))
    rest = omega arith

    abbrev turned : Bool
    turned = xor odd (pushes_along defect pointer (over_by x (P.off k)) (P.back k))

    none-turn : eqb (growth (over_by x (P.slot k))) no_edge ≡ true → left k (dirs - k) odd ≡ left (k + 1) (dirs - (k + 1)) odd
    unfolding arrived
    none-turn e = rw rest (ap (λ (b : Bool). left (k + 1) (dirs - (k + 1)) b) (if-true (eqb (growth (over_by x (P.slot k))) no_edge) odd turned e))

    edge-turn : eqb (growth (over_by x (P.slot k))) no_edge ≡ false
        → left k (dirs - k) odd ≡ left (k + 1) (dirs - (k + 1)) turned
    unfolding arrived
    edge-turn e = rw rest (ap (λ (b : Bool). left (k + 1) (dirs - (k + 1)) b) (if-false (eqb (growth (over_by x (P.slot k))) no_edge) odd turned e))

  -- by what the code found: v is the growth of the edge at e
  module _ (k dirs : ℕ) (odd whole : Bool) (h : k < dirs) (inv : left k (dirs - k) odd ≡ whole) (e v : ℕ) (pe : e ≡ over_by x (P.slot k)) (pv : v ≡ growth e) where
    told : v ≡ growth (over_by x (P.slot k))
    told = pv ∙ ap growth pe

    pub none-again : v ≡ no_edge → left (k + 1) (dirs - (k + 1)) odd ≡ whole
    none-again t = sym (none-turn k dirs odd h (eq-eqb (growth (over_by x (P.slot k))) no_edge (sym told ∙ t))) ∙ inv

    pub edge-again : (v ≡ no_edge → ⊥) → (j : ℕ) → j ≡ over_by x (P.off k) → (b : Bool) → b ≡ pushes_along defect pointer j (P.back k)
        → left (k + 1) (dirs - (k + 1)) (xor odd b) ≡ whole
    edge-again t j pj b pb =
        let y : b ≡ pushes_along defect pointer (over_by x (P.off k)) (P.back k) = pb ∙ ap (λ (i : ℕ). pushes_along defect pointer i (P.back k)) pj in
        ap (λ (a : Bool). left (k + 1) (dirs - (k + 1)) (xor odd a)) y
        ∙ sym (edge-turn k dirs odd h (ne_eqb (growth (over_by x (P.slot k))) no_edge (λ q. t (told ∙ q))))
        ∙ inv

  pub arrived-none : (dirs : ℕ) (odd : Bool) → left 0 (dirs - 0) odd ≡ left 0 dirs odd
  arrived-none dirs odd = let e : dirs - 0 ≡ dirs = omega arith in ap (λ (n : ℕ). left 0 n odd) e

  pub arrived-done : (k dirs : ℕ) (odd whole : Bool) → dirs ≤ k → left k (dirs - k) odd ≡ whole → odd ≡ whole
  unfolding arrived
  arrived-done k dirs odd whole h inv = let e : dirs - k ≡ 0 = omega arith in sym (ap (λ (n : ℕ). left k n odd) e) ∙ inv
