-- HOW MANY of the first n numbers pass a test. Assumes nothing.
use Prim.Native.Nat.{ℕ, zero, suc, ◌≤◌, ◌<◌}
use Rattle.std.proofs.Common.{eq-or-lt_of_le, sym, ◌∙◌}
use native.Mathlib.Omega.{arith}
use Rattle.std.specs.Prelude.{◌≡◌, refl, Bool, true, false, ◌⊎◌}
use Rattle.std.proofs.Math.Path.{ap}
use Rattle.std.proofs.Math.Logic.{inl, inr, ⊎_elim}
use Rattle.refusal.specs.Laws.{undone}
use Rattle.shape.specs.Choice.{whether}
use Rattle.window.specs.Lists.{bit}
use Rattle.window.specs.LawsLists.{bit-most}
use Rattle.law.specs.Law.{sum}

abbrev pub count : ℕ → (ℕ → Bool) → ℕ
count n f = sum n (λ i. bit (f i))

bit_below : (a b : Bool) → (a ≡ true → b ≡ true) → bit a ≤ bit b
bit_below true b h = let e : bit b ≡ 1 = ap bit (h refl) in omega arith
bit_below false b h = omega arith

-- a number up to n is n, or below it
last_or : {A : Type 0} (n i : ℕ) → i < suc n → (i ≡ n → A) → (i < n → A) → A
last_or n i l a b = ⊎_elim (λ e. a (omega arith)) (λ m. b (omega arith)) (eq-or-lt_of_le l)

count-le : (f : ℕ → Bool) (n : ℕ) → count n f ≤ n
unfolding sum
count-le f zero = omega arith
count-le f (suc n) = omega (arith, count-le f n, bit-most (f n))

-- one passes
pub count-some : (f : ℕ → Bool) (n i : ℕ) → i < n → f i ≡ true → 1 ≤ count n f
unfolding sum
count-some f zero i l e = absurd (omega arith)
count-some f (suc n) i l e =
    last_or n i l (λ q. let b : bit (f n) ≡ 1 = ap bit (sym (ap f q) ∙ e) in omega arith) (λ m. omega (arith, count-some f n i m e))

-- if n pass, all do
pub count-full : (f : ℕ → Bool) (n : ℕ) → n ≤ count n f → (i : ℕ) → i < n → f i ≡ true
unfolding sum
count-full f zero h i l = absurd (omega arith)
count-full f (suc n) h i l =
    whether (f n)
    (λ e. let b : bit (f n) ≡ 1 = ap bit e in last_or n i l (λ q. rw q e) (λ m. count-full f n (omega arith) i m))
    (λ e. let b : bit (f n) ≡ 0 = ap bit e in absurd (omega (arith, count-le f n)))

-- WHERE WHATEVER PASSES f PASSES g
module _ (f g : ℕ → Bool) where
  abbrev Below : ℕ → Type 0
  Below n = (i : ℕ) → i < n → f i ≡ true → g i ≡ true

  count-below : (n : ℕ) → Below n → count n f ≤ count n g
  unfolding sum
  count-below zero h = omega arith
  count-below (suc n) h = omega (arith, count-below n (λ i l. h i (omega arith)), bit_below (f n) (g n) (h n (omega arith)))

  -- the two are the same, or more pass g
  pub count-grows : (n : ℕ) → Below n → ((i : ℕ) → i < n → g i ≡ true → f i ≡ true) ⊎ (count n f < count n g)
  unfolding sum
  count-grows zero h = inl (λ i l e. absurd (omega arith))
  count-grows (suc n) h =
      let h' : Below n = λ i l. h i (omega arith) in
      whether (f n)
      (λ e.
      let a : bit (f n) ≡ 1 = ap bit e in
      let b : bit (g n) ≡ 1 = ap bit (h n (omega arith) e) in
      ⊎_elim (λ same. inl (λ i l t. last_or n i l (λ q. rw q e) (λ m. same i m t))) (λ less. inr (omega arith)) (count-grows n h'))
      (λ e.
      let a : bit (f n) ≡ 0 = ap bit e in
      whether (g n)
      (λ t. let b : bit (g n) ≡ 1 = ap bit t in inr (omega (arith, count-below n h')))
      (λ t.
      let b : bit (g n) ≡ 0 = ap bit t in
      ⊎_elim (λ same. inl (λ i l x. last_or n i l (λ q. absurd (undone (sym x ∙ ap g q ∙ t))) (λ m. same i m x))) (λ less. inr (omega arith)) (count-grows n h')))
