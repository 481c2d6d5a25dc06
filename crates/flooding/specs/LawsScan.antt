-- The turns of the scan: what is left gives the whole. Assumes nothing.
use Prim.Native.Nat.{ℕ, zero, suc, ◌+◌, ◌-◌, ◌≤◌, ◌<◌}
use native.Mathlib.Omega.{arith}
use Rattle.std.specs.Prelude.{◌≡◌, Bool, true, false, ◌&&◌, ltb, eqb}
use Rattle.std.proofs.Common.{ap, ◌∙◌, subst, lt-ltb, le-ltb}
use Rattle.std.proofs.Math.Path.{sym}
use Rattle.std.proofs.Math.Bool.{not}
use Rattle.std.proofs.lemmas.Bool.{not-true, not-false}
use Rattle.shape.specs.Choice.{whether}
use Rattle.flat.specs.Codes.{reset_code}
use Rattle.flat.specs.Entries.{over_by}
use Rattle.flat.specs.Plan.{Plan}
use Rattle.flat.specs.Rule.{flood, scanned}
use Rattle.flat.specs.declared.Flood.{Flood}

module _ (P : Plan) (mark growth : ℕ → ℕ) (x : ℕ) (unrooted : Bool) where
  abbrev left : ℕ → ℕ → ℕ → ℕ → Flood
  left k n m p = scanned P mark growth x unrooted k n m p

  module _ (k dirs m p : ℕ) (h : k < dirs) where
    rest : dirs - k ≡ suc (dirs - (k + 1))
    rest = omega arith

    closed-turn : eqb (growth (over_by x (P.slot k))) 2 ≡ false → left k (dirs - k) m p ≡ left (k + 1) (dirs - (k + 1)) m p
    unfolding scanned
    closed-turn e = rw (rest, e)

    module _ (e : eqb (growth (over_by x (P.slot k))) 2 ≡ true) where
      stop-turn : (eqb (mark (over_by x (P.off k))) reset_code && not unrooted) ≡ true → left k (dirs - k) m p ≡ flood reset_code 0
      unfolding scanned
      stop-turn t = rw (rest, e, t)

      higher-turn : (eqb (mark (over_by x (P.off k))) reset_code && not unrooted) ≡ false → ltb (mark (over_by x (P.off k))) m ≡ false
          → left k (dirs - k) m p ≡ left (k + 1) (dirs - (k + 1)) m p
      unfolding scanned
      higher-turn t l = rw (rest, e, t, l)

      lower-turn : (eqb (mark (over_by x (P.off k))) reset_code && not unrooted) ≡ false → ltb (mark (over_by x (P.off k))) m ≡ true
          → left k (dirs - k) m p ≡ left (k + 1) (dirs - (k + 1)) (mark (over_by x (P.off k))) (k + 1)
      unfolding scanned
      lower-turn t l = rw (rest, e, t, l)

  -- by what the code found: o is whether the edge at e is open, j the entry over the direction
  module _ (k dirs m p : ℕ) (whole : Flood) (h : k < dirs) (inv : left k (dirs - k) m p ≡ whole) (e : ℕ) (o : Bool) (pe : e ≡ over_by x (P.slot k)) (po : o ≡ eqb (growth e) 2) where
    told : o ≡ eqb (growth (over_by x (P.slot k))) 2
    told = po ∙ ap (λ (i : ℕ). eqb (growth i) 2) pe

    pub closed-again : not o ≡ true → left (k + 1) (dirs - (k + 1)) m p ≡ whole
    closed-again t = sym (closed-turn k dirs m p h (sym told ∙ not-true o t)) ∙ inv

    module _ (t : not o ≡ false) (j : ℕ) (pj : j ≡ over_by x (P.off k)) where
      grown : eqb (growth (over_by x (P.slot k))) 2 ≡ true
      grown = sym told ∙ not-false o t

      pub stopped : (eqb (mark j) reset_code && not unrooted) ≡ true → flood reset_code 0 ≡ whole
      stopped s = sym (stop-turn k dirs m p h grown (subst (λ (i : ℕ). (eqb (mark i) reset_code && not unrooted) ≡ true) pj s)) ∙ inv

      pub higher-again : (eqb (mark j) reset_code && not unrooted) ≡ false → m ≤ mark j → left (k + 1) (dirs - (k + 1)) m p ≡ whole
      higher-again s l =
          sym
          (higher-turn k dirs m p h grown (subst (λ (i : ℕ). (eqb (mark i) reset_code && not unrooted) ≡ false) pj s)
          (le-ltb _ _ (subst (λ (i : ℕ). m ≤ mark i) pj l)))
          ∙ inv

      pub lower-again : (eqb (mark j) reset_code && not unrooted) ≡ false → mark j < m → left (k + 1) (dirs - (k + 1)) (mark j) (k + 1) ≡ whole
      lower-again s l =
          ap (λ (i : ℕ). left (k + 1) (dirs - (k + 1)) (mark i) (k + 1)) pj
          ∙ sym
          (lower-turn k dirs m p h grown (subst (λ (i : ℕ). (eqb (mark i) reset_code && not unrooted) ≡ false) pj s)
          (lt-ltb _ _ (subst (λ (i : ℕ). mark i < m) pj l)))
          ∙ inv

  -- the scan's start and its end
  pub scan-none : (dirs m p : ℕ) → left 0 (dirs - 0) m p ≡ left 0 dirs m p
  scan-none dirs m p = let e : dirs - 0 ≡ dirs = omega arith in ap (λ (n : ℕ). left 0 n m p) e

  pub scan-done : (k dirs m p : ℕ) (whole : Flood) → dirs ≤ k → left k (dirs - k) m p ≡ whole → flood m p ≡ whole
  unfolding scanned
  scan-done k dirs m p whole h inv = let e : dirs - k ≡ 0 = omega arith in sym (ap (λ (n : ℕ). left k n m p) e) ∙ inv

  -- the pointer is the old one, none, or a direction's
  pub pointer-low : (n k m p : ℕ) → p < 32 → k + n ≤ 12 → (left k n m p).pointer < 32
  unfolding scanned
  pointer-low zero k m p a b = a
  pointer-low (suc n) k m p a b =
      let c : k + 1 + n ≤ 12 = omega arith in
      let go = pointer-low n (k + 1) m p a c in
      whether (eqb (growth (over_by x (P.slot k))) 2)
      (λ t.
      whether (eqb (mark (over_by x (P.off k))) reset_code && not unrooted)
      (λ s. rw (t, s) (omega arith))
      (λ s. whether (ltb (mark (over_by x (P.off k))) m)
      (λ r. rw (t, s, r) (pointer-low n (k + 1) (mark (over_by x (P.off k))) (k + 1) (omega arith) c))
      (λ r. rw (t, s, r) go)))
      (λ t. rw t go)
