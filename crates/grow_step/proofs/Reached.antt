-- HOW OFTEN AN EDGE IS REACHED: once from each active end. Assumes nothing.
use Prim.Native.Nat.{ℕ, zero, suc, ◌+◌, ◌≤◌, ◌<◌}
use native.Mathlib.Omega.{arith}
use mathlib.Core.Path.{◌≡◌, refl, sym, ◌∙◌, ap, ap₂}
use mathlib.Core.Bool.{Bool, true, false, not, or-false}
use mathlib.Core.List.{List}
use mathlib.Core.Logic.{◌⊎◌, inl, inr, ⊎_elim}
use borrow.Author.Tests.{eqb-true, eqb-false, eq-eqb, ne_eqb, lt-ltb, le-ltb}
use lib.Dec.{eqb, ltb}
use lib.ListN.{get_or}
use Rattle.shape.specs.Choice.{if, if-true, whether, order}
use Rattle.steps.specs.Steps.{Table}
use Rattle.steps.specs.Suited.{Suited}
use Rattle.window.specs.Lists.{bit}
use Rattle.flat.specs.Codes.{active_of}
use Rattle.flat.specs.Entries.{cell, within, over_by}
use Rattle.flat.specs.LawsEntries.{inside}
use Rattle.flat.specs.Plan.{Plan}
use Rattle.flat.specs.Step.{named, active_at}
use Rattle.growing.specs.Grown.{Actives, hits_in, edges_of, hits_of}
use Rattle.growing.specs.LawsGrown.{hits-same}
use Rattle.shows.specs.Named.{named-found, same_test}
use Rattle.shows.specs.Planned.{Planned}
use Rattle.grow_step.proofs.Ends.{Back, at_other, same-edge, named-low, named-own, named-kind, named-at, back-way, named_back, apart}

same-eqb : (a b c d : ℕ) → (a ≡ b → c ≡ d) → (c ≡ d → a ≡ b) → eqb a b ≡ eqb c d
same-eqb a b c d f g = same_test (eqb a b) (eqb c d) (λ t. eq-eqb c d (f (eqb-true a b t))) (λ t. eq-eqb a b (g (eqb-true c d t)))

-- no place is e
hits-zero : (place : ℕ → ℕ) (c e : ℕ) → ((i : ℕ) → i < c → place i ≡ e → ⊥) → hits_in place c e ≡ 0
unfolding hits_in
hits-zero place zero e q = refl
hits-zero place (suc c) e q = ap₂ (λ (a : ℕ) (b : Bool). a + bit b) (hits-zero place c e (λ i l. q i (omega arith))) (ne_eqb (place c) e (q c (omega arith)))

-- a list that rises has an entry once
hits-once : (list : ℕ → ℕ) (c x : ℕ) → ((i j : ℕ) → i < j → j < c → list i < list j) → hits_in list c x ≡ bit (named list c x)
unfolding hits_in named
hits-once list zero x rise = refl
hits-once list (suc c) x rise =
    let rest = hits-once list c x (λ i j l m. rise i j l (omega arith)) in
    whether (eqb (list c) x)
    (λ t.
    let e : list c ≡ x = eqb-true (list c) x t in
    let n : named list c x ≡ false
    = whether (named list c x)
    (λ s. let r = named-found list c x s in let r1 = r.1 in let r2 = r.2 in let h = rise r.0 c r.1 (omega arith) in absurd (omega arith))
    (λ s. s) in
    let z : hits_in list c x ≡ 0 = rest ∙ ap bit n in
    rw (t, n, z))
    (λ t. rw (t, or-false) (ap (λ (a : ℕ). a + 0) rest ∙ omega arith))

-- A SUM OVER DIRECTIONS with two that count
module _ (P : Plan) (list : ℕ → ℕ) (listed e k1 k2 : ℕ) (differ : k1 ≡ k2 → ⊥) (none : (k : ℕ) → k < P.dirs → (k ≡ k1 → ⊥) → (k ≡ k2 → ⊥) → hits_in (edges_of P list k) listed e ≡ 0) where
  abbrev f : ℕ → ℕ
  f k = hits_in (edges_of P list k) listed e

  abbrev part : ℕ → ℕ → ℕ → ℕ
  part k a c = if (ltb k c) a 0

  abbrev one : ℕ → ℕ → ℕ → ℕ
  one k a c = if (eqb c k) a 0

  part-more : (k a c : ℕ) → part k a (suc c) ≡ part k a c + one k a c
  part-more k a c =
      ⊎_elim
      (λ l.
      let x : ltb k c ≡ true = lt-ltb k c l in
      let y : ltb k (suc c) ≡ true = lt-ltb k (suc c) (omega arith) in
      let z : eqb c k ≡ false = ne_eqb c k (λ (s : c ≡ k). omega arith) in
      rw (x, y, z) (omega arith))
      (λ l.
      let x : ltb k c ≡ false = le-ltb k c l in
      whether (eqb c k)
      (λ t. let s : c ≡ k = eqb-true c k t in let y : ltb k (suc c) ≡ true = lt-ltb k (suc c) (omega arith) in rw (x, y, t) (omega arith))
      (λ t.
      let s = eqb-false c k t in
      let y : ltb k (suc c) ≡ false = le-ltb k (suc c) (past k c l s) in
      rw (x, y, t)))
      (order k c)
    where
      past : (k c : ℕ) → c ≤ k → (c ≡ k → ⊥) → suc c ≤ k
      past k c l s = ⊎_elim (λ h. h) (λ h. absurd (s (omega arith))) (order c k)

  ones : (c : ℕ) → c < P.dirs → f c ≡ one k1 (f k1) c + one k2 (f k2) c
  ones c l =
      whether (eqb c k1)
      (λ t.
      let s : c ≡ k1 = eqb-true c k1 t in
      let u : eqb c k2 ≡ false = ne_eqb c k2 (λ v. differ (sym s ∙ v)) in
      ap f s ∙ rw (t, u) (omega arith))
      (λ t.
      whether (eqb c k2)
      (λ u. let s : c ≡ k2 = eqb-true c k2 u in ap f s ∙ rw (t, u) (omega arith))
      (λ u. none c l (eqb-false c k1 t) (eqb-false c k2 u) ∙ rw (t, u)))

  sums : (c : ℕ) → c ≤ P.dirs → hits_of P list listed c e ≡ part k1 (f k1) c + part k2 (f k2) c
  unfolding hits_of
  sums zero l = let a : ltb k1 0 ≡ false = le-ltb k1 0 (omega arith) in let b : ltb k2 0 ≡ false = le-ltb k2 0 (omega arith) in rw (a, b)
  sums (suc c) l =
      let r = sums c (omega arith) in
      let o = ones c (omega arith) in
      let a = part-more k1 (f k1) c in
      let b = part-more k2 (f k2) c in
      omega arith

  two-count : k1 < P.dirs → k2 < P.dirs → hits_of P list listed P.dirs e ≡ f k1 + f k2
  two-count a b = sums P.dirs (omega arith) ∙ ap₂ (λ (x y : ℕ). x + y) (if-true (ltb k1 P.dirs) (f k1) 0 (lt-ltb _ _ a)) (if-true (ltb k2 P.dirs) (f k2) 0 (lt-ltb _ _ b))

-- WHAT THE LIST NAMES
module _ (n : ℕ) (nodes : List ℕ) (listed : ℕ) (old lists : List ℕ) (A : Actives n nodes listed old lists) where
  named-active : (x : ℕ) → within n x ≡ true → named (active_at lists) listed x ≡ active_of (get_or nodes x 0)
  named-active x w =
      same_test (named (active_at lists) listed x) (active_of (get_or nodes x 0))
      (λ t. let r = named-found (active_at lists) listed x t in ap (λ (y : ℕ). active_of (get_or nodes y 0)) (sym r.2) ∙ A.active r.0 r.1)
      (λ t. A.all x w t)

  module _ (T : Table) (S : Suited T) (h d : ℕ) (P : Plan) (N : Planned T h d P) (small : n ≤ 3600) (kind : ℕ) (m : kind < T.kinds) (x : ℕ) (w : within n x ≡ true)
      (v : within n (over_by x (P.off (P.namer kind))) ≡ true) where
    abbrev list : ℕ → ℕ
    list = active_at lists

    abbrev k1 : ℕ
    k1 = P.namer kind

    abbrev k2 : ℕ
    k2 = back-way T S h d P N kind m

    abbrev u : ℕ
    u = over_by x (P.off k1)

    bounds : (y : ℕ) → within n y ≡ true → (512 ≤ y) × (y < 4112)
    bounds y i = let r = inside n y i in let r1 = r.1 in (r.0, omega arith)

    low1 : k1 < P.dirs
    low1 = named-low T S h d P N kind m

    B : Back T S h d P N k1 k2
    B = named_back T S h d P N kind m

    at : over_by x (P.slot k1) ≡ cell kind x
    at = let b = bounds x w in named-at T S h d P N kind m x b.0 b.1

    -- a listed node whose edge this is
    ends : (i k : ℕ) → i < listed → k < P.dirs → edges_of P list k i ≡ cell kind x → ((k ≡ k1) × (list i ≡ x)) ⊎ ((k ≡ k2) × (list i ≡ u))
    ends i k l q e =
        let b = bounds x w in
        let c = bounds (list i) (A.places i l) in
        ⊎_elim
        (λ s. inl (sym s.0, sym s.1))
        (λ s. let g = s.0.is in let g' = B.is in inr (omega arith, s.2))
        (same-edge T S h d P N x k1 (list i) k b.0 b.1 low1 c.0 c.1 q (at ∙ sym e))

    from-here : (i : ℕ) → i < listed → eqb (edges_of P list k1 i) (cell kind x) ≡ eqb (list i) x
    from-here i l =
        same-eqb (edges_of P list k1 i) (cell kind x) (list i) x
        (λ e. ⊎_elim (λ s. s.1) (λ s. absurd (apart T S h d P N kind m s.0)) (ends i k1 l low1 e))
        (λ e. ap (λ (y : ℕ). over_by y (P.slot k1)) e ∙ at)

    -- the other end's edge in the direction back
    there : over_by u (P.slot k2) ≡ cell kind x
    there =
        let b = bounds x w in
        let b0 = b.0 in
        let c = bounds u v in
        let c0 = c.0 in
        let f = B.far in
        let o = B.own ∙ ap not (named-own T S h d P N kind m) in
        let y : over_by u (P.off k2) ≡ x = omega arith in
        at_other T S h d P N u k2 c.0 c.1 B.low o ∙ ap₂ cell (B.kind ∙ named-kind T S h d P N kind m) y

    from-there : (i : ℕ) → i < listed → eqb (edges_of P list k2 i) (cell kind x) ≡ eqb (list i) u
    from-there i l =
        same-eqb (edges_of P list k2 i) (cell kind x) (list i) u
        (λ e. ⊎_elim (λ s. absurd (apart T S h d P N kind m (sym s.0))) (λ s. s.1) (ends i k2 l B.low e))
        (λ e. ap (λ (y : ℕ). over_by y (P.slot k2)) e ∙ there)

    once : (y : ℕ) → within n y ≡ true → hits_in list listed y ≡ bit (active_of (get_or nodes y 0))
    once y i = hits-once list listed y A.rise ∙ ap bit (named-active y i)

    pub reached : hits_of P list listed P.dirs (cell kind x) ≡ bit (active_of (get_or nodes x 0)) + bit (active_of (get_or nodes (over_by x (P.off (P.namer kind))) 0))
    reached =
        two-count P list listed (cell kind x) k1 k2 (apart T S h d P N kind m)
        (λ k q a b. hits-zero (edges_of P list k) listed (cell kind x) (λ i l e. ⊎_elim (λ s. a s.0) (λ s. b s.0) (ends i k l q e)))
        low1 B.low
        ∙ ap₂ (λ (a b : ℕ). a + b) (hits-same (edges_of P list k1) list listed (cell kind x) x from-here ∙ once x w) (hits-same (edges_of P list k2) list listed (cell kind x) u from-there ∙ once u v)
