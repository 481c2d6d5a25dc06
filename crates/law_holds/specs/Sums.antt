-- Sums of bits modulo 2, and two sums that run over the same edges. Assumes nothing.
use Rattle.std.specs.Prelude.{ℕ, zero, suc, ◌+◌, ◌%◌, ◌<◌, ◌≡◌, Bool, true, false, ◌&&◌, List, [], ◌∷◌, ◌++◌, eqb}
use Rattle.std.proofs.Common.{eq-or-lt_of_le, add-one, arith, sym, ◌∙◌, ap, ap₂, ⊎_elim, eqb-true, eq-eqb, ne_eqb}
use Rattle.std.proofs.Math.Path.{refl}
use Rattle.refusal.specs.Laws.{undone}
use Rattle.shape.specs.Choice.{tell}
use Rattle.shape.proofs.Ranges.{halves}
use Rattle.window.specs.Lists.{by_place, bit, xor}
use Rattle.window.specs.LawsLists.{by-snoc, and_no, and-not}
use Rattle.window.specs.Merging.{arrivals}
use Rattle.window.specs.declared.Seen.{Seen}
use Rattle.law.specs.Law.{sum}
use Rattle.law.specs.Bits.{xor-none, none-xor, xor-laws, refuted, and_yes, bit-add}

-- THE SUM MODULO 2 OF f 0 .. f (n - 1)

unfoldable pub parity : ℕ → (ℕ → Bool) → Bool
parity zero f = false
parity (suc n) f = xor (parity n f) (f n)

pub parity-more : (f : ℕ → Bool) (n : ℕ) → parity (n + 1) f ≡ xor (parity n f) (f n)
unfolding parity
parity-more f n = rw (add-one n)

pub parity-xor : (f g : ℕ → Bool) (n : ℕ) → parity n (λ i. xor (f i) (g i)) ≡ xor (parity n f) (parity n g)
unfolding parity
parity-xor f g zero = refl
parity-xor f g (suc n) = rw (parity-xor f g n) (simp xor-laws)

pub parity-same : (f g : ℕ → Bool) (n : ℕ) → ((i : ℕ) → i < n → f i ≡ g i) → parity n f ≡ parity n g
unfolding parity
parity-same f g zero e = refl
parity-same f g (suc n) e = ap₂ (λ (a b : Bool). xor a b) (parity-same f g n (λ i l. e i (omega arith))) (e n (omega arith))

pub parity-none : (f : ℕ → Bool) (n : ℕ) → ((i : ℕ) → i < n → f i ≡ false) → parity n f ≡ false
unfolding parity
parity-none f zero e = refl
parity-none f (suc n) e = let a = parity-none f n (λ i l. e i (omega arith)) in let b = e n (omega arith) in rw (a, b)

-- one term alone counts
pub parity-only : (f : ℕ → Bool) (n j : ℕ) → j < n → ((i : ℕ) → i < n → (i ≡ j → ⊥) → f i ≡ false) → parity n f ≡ f j
unfolding parity
parity-only f zero j l e = absurd (omega arith)
parity-only f (suc n) j l e =
    ⊎_elim
    (λ p. let q : n ≡ j = omega arith in let a = parity-none f n (λ i m. e i (omega arith) (λ z. omega arith)) in rw (a, q) (none-xor (f j)))
    (λ p. let q : j < n = omega arith in
    let a = parity-only f n j q (λ i m. e i (omega arith)) in
    let b = e n (omega arith) (λ z. omega arith) in
    rw (a, b) (xor-none (f j)))
    (eq-or-lt_of_le l)

-- the order of two sums
parity-swap : (f : ℕ → ℕ → Bool) (n m : ℕ) → parity n (λ i. parity m (f i)) ≡ parity m (λ j. parity n (λ i. f i j))
unfolding parity
parity-swap f zero m = sym (parity-none (λ j. false) m (λ j l. refl))
parity-swap f (suc n) m = rw (parity-swap f n m) (sym (parity-xor (λ j. parity n (λ i. f i j)) (f n) m))

-- a count is odd or even as its bits say
pub sum-parity : (g : ℕ → ℕ) (f : ℕ → Bool) (n : ℕ) → ((i : ℕ) → g i % 2 ≡ bit (f i)) → sum n g % 2 ≡ bit (parity n f)
unfolding parity sum
sum-parity g f zero e = refl
sum-parity g f (suc n) e = bit-add (sum n g) (g n) (parity n f) (f n) (sum-parity g f n e) (e n)

-- what arrives at a node

arrivals-more : (l : List Seen) (x : Seen) (b : Bool) → arrivals (l ++ (x ∷ [])) b ≡ xor (arrivals l b) x.pushes
unfolding arrivals
arrivals-more [] x b = refl
arrivals-more (y ∷ l) x b = arrivals-more l x (xor b y.pushes)

pub arrivals-sum : (f : ℕ → Seen) (n : ℕ) → arrivals (by_place n f) false ≡ parity n (λ i. (f i).pushes)
unfolding arrivals parity
arrivals-sum f zero = unfold by_place in refl
arrivals-sum f (suc n) =
    ap (λ (k : ℕ). arrivals (by_place k f) false) (sym (add-one n))
    ∙ ap (λ (l : List Seen). arrivals l false) (by-snoc f n)
    ∙ arrivals-more (by_place n f) (f n) false
    ∙ ap (λ (b : Bool). xor b (f n).pushes) (arrivals-sum f n)

-- TWO SUMS THAT RUN OVER THE SAME EDGES

-- a direction below K where t holds, that leads to edge i of layer n
pub record Led (K : ℕ) (t : ℕ → Bool) (layer edge : ℕ → ℕ) (n i : ℕ) : Type 0 where
  pub direction : ℕ
  pub below : direction < K
  pub there : t direction ≡ true
  pub layer-is : layer direction ≡ n
  pub edge-is : edge direction ≡ i

-- of M layers of E edges those where f holds, and of K directions those where t holds: each leads to one of the former, no two to the same, and all are led to
pub record Matched (M E K : ℕ) (f : ℕ → ℕ → Bool) (t : ℕ → Bool) (layer edge : ℕ → ℕ) : Type 0 where
  pub layer-lt : (p : ℕ) → p < K → t p ≡ true → layer p < M
  pub edge-lt : (p : ℕ) → p < K → t p ≡ true → edge p < E
  pub holds : (p : ℕ) → p < K → t p ≡ true → f (layer p) (edge p) ≡ true
  pub apart : (p p' : ℕ) → p < K → p' < K → t p ≡ true → t p' ≡ true → layer p ≡ layer p' → edge p ≡ edge p' → p ≡ p'
  pub covers : (n i : ℕ) → n < M → i < E → f n i ≡ true → Led K t layer edge n i

module _ (M E K : ℕ) (f : ℕ → ℕ → Bool) (t : ℕ → Bool) (layer edge : ℕ → ℕ) (m : Matched M E K f t layer edge)
    (F : ℕ → ℕ → Bool) (G : ℕ → Bool) (same : (p : ℕ) → p < K → t p ≡ true → F (layer p) (edge p) ≡ G p) where
  -- the direction p leads to edge i of layer n
  abbrev leads : ℕ → ℕ → ℕ → Bool
  leads n i p = (t p && G p) && (eqb n (layer p) && eqb i (edge p))

  led-there : (n i p : ℕ) → leads n i p ≡ true → t p ≡ true
  led-there n i p e = (halves (t p) (G p) (halves (t p && G p) _ e).0).0

  led-layer : (n i p : ℕ) → leads n i p ≡ true → layer p ≡ n
  led-layer n i p e = sym (eqb-true n (layer p) (halves (eqb n (layer p)) (eqb i (edge p)) (halves (t p && G p) _ e).1).0)

  led-edge : (n i p : ℕ) → leads n i p ≡ true → edge p ≡ i
  led-edge n i p e = sym (eqb-true i (edge p) (halves (eqb n (layer p)) (eqb i (edge p)) (halves (t p && G p) _ e).1).1)

  -- an edge is counted once, by its direction
  by-direction : (n i : ℕ) → n < M → i < E → (f n i && F n i) ≡ parity K (leads n i)
  by-direction n i l k = ⊎_elim yes no (tell (f n i))
    where
      yes : f n i ≡ true → (f n i && F n i) ≡ parity K (leads n i)
      yes e =
          let c = m.covers n i l k e in
          let p = c.direction in
          let others : (p' : ℕ) → p' < K → (p' ≡ p → ⊥) → leads n i p' ≡ false
          = λ p' l' z. refuted (leads n i p')
          (λ x. z (m.apart p' p l' c.below (led-there n i p' x) c.there (led-layer n i p' x ∙ sym c.layer-is) (led-edge n i p' x ∙ sym c.edge-is))) in
          let a : parity K (leads n i) ≡ leads n i p = parity-only (leads n i) K p c.below others in
          let b : F n i ≡ G p = ap₂ F (sym c.layer-is) (sym c.edge-is) ∙ same p c.below c.there in
          let x = eq-eqb n (layer p) (sym c.layer-is) in
          let y = eq-eqb i (edge p) (sym c.edge-is) in
          rw (a, b, e, c.there, x, y) (sym (and_yes (G p)))

      no : f n i ≡ false → (f n i && F n i) ≡ parity K (leads n i)
      no e =
          let none : (p : ℕ) → p < K → leads n i p ≡ false
          = λ p l'. refuted (leads n i p)
          (λ x. undone (sym (m.holds p l' (led-there n i p x)) ∙ ap₂ f (led-layer n i p x) (led-edge n i p x) ∙ e)) in
          rw e (sym (parity-none (leads n i) K none))

  -- and a direction by its edge
  by-edge : (p : ℕ) → p < K → parity M (λ n. parity E (λ i. leads n i p)) ≡ t p && G p
  by-edge p l = ⊎_elim yes no (tell (t p))
    where
      yes : t p ≡ true → parity M (λ n. parity E (λ i. leads n i p)) ≡ t p && G p
      yes e =
          parity-only (λ n. parity E (λ i. leads n i p)) M (layer p) (m.layer-lt p l e)
          (λ n l' z. parity-none (λ i. leads n i p) E (λ i k. and_no (t p && G p) _ (and-not _ (eqb i (edge p)) (ne_eqb n (layer p) z))))
          ∙ parity-only (λ i. leads (layer p) i p) E (edge p) (m.edge-lt p l e)
          (λ i l' z. and_no (t p && G p) _ (and_no (eqb (layer p) (layer p)) _ (ne_eqb i (edge p) z)))
          ∙ rw (eq-eqb (layer p) (layer p) refl, eq-eqb (edge p) (edge p) refl) (and_yes (t p && G p))

      no : t p ≡ false → parity M (λ n. parity E (λ i. leads n i p)) ≡ t p && G p
      no e =
          parity-none (λ n. parity E (λ i. leads n i p)) M (λ n l'. parity-none (λ i. leads n i p) E (λ i k. and-not _ _ (and-not (t p) (G p) e)))
          ∙ sym (and-not (t p) (G p) e)

  pub matched : parity M (λ n. parity E (λ i. f n i && F n i)) ≡ parity K (λ p. t p && G p)
  matched =
      parity-same _ (λ n. parity E (λ i. parity K (leads n i))) M
      (λ n l. parity-same (λ i. f n i && F n i) (λ i. parity K (leads n i)) E (λ i k. by-direction n i l k))
      ∙ parity-same _ (λ n. parity K (λ p. parity E (λ i. leads n i p))) M (λ n l. parity-swap (λ i p. leads n i p) E K)
      ∙ parity-swap (λ n p. parity E (λ i. leads n i p)) M K
      ∙ parity-same _ (λ p. t p && G p) K by-edge
