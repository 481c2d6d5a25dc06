-- ONE PASS AFTER ANOTHER over an array, each of which leaves what the others stored; and blocks of entries, one after the other.
-- Assumes nothing.
use Prim.Native.Nat.{ℕ, zero, suc, ◌+◌, ◌*◌, ◌≤◌, ◌<◌}
use Rattle.std.proofs.Common.{add-mul, one-mul, zero-mul, mul-le-mul_right, ◌∙◌}
use Rattle.std.proofs.Math.Numerals.{add-one}
use native.Mathlib.Omega.{arith}
use Rattle.std.specs.Prelude.{◌≡◌, List, get_or, length}
use Rattle.std.proofs.Math.Path.{refl, ap}
use Rattle.std.proofs.Math.Logic.{⊎_elim}
use Rattle.shape.specs.Choice.{order}
use Rattle.flat.specs.Stored.{stored, length-stored, stored_at, stored-before, stored-behind}

unfoldable pub passes {ℓ} : {A : Type ℓ} → (ℕ → List A → List A) → ℕ → List A → List A
passes f zero l = l
passes f (suc n) l = f n (passes f n l)

-- n entries every w entries from b on, by block and place in it
abbrev pub blocks {ℓ} : {A : Type ℓ} → ℕ → ℕ → (ℕ → ℕ → A) → ℕ → ℕ → List A → List A
blocks b w f n k l = passes (λ i. stored (b + i * w) (f i) n) k l

module _ {ℓ} {A : Type ℓ} (f : ℕ → List A → List A) where
  -- a loop's start and its turn
  pub passes_none : (l : List A) → l ≡ passes f 0 l
  unfolding passes
  passes_none l = refl

  pub passes-next : (l : List A) (i : ℕ) (now next : List A) → now ≡ passes f i l → next ≡ f i now → next ≡ passes f (i + 1) l
  unfolding passes
  passes-next l i now next p q = q ∙ ap (f i) p ∙ rw add-one

  pub length-passes : ((i : ℕ) (l : List A) → length (f i l) ≡ length l) → (n : ℕ) (l : List A) → length (passes f n l) ≡ length l
  unfolding passes
  length-passes e zero l = refl
  length-passes e (suc n) l = e n (passes f n l) ∙ length-passes e n l

  module _ (z : A) (x : ℕ) where
    -- no pass stores there
    pub passes-other : (n : ℕ) → ((i : ℕ) → i < n → (l : List A) → get_or (f i l) x z ≡ get_or l x z) → (l : List A) → get_or (passes f n l) x z ≡ get_or l x z
    unfolding passes
    passes-other zero e l = refl
    passes-other (suc n) e l = e n (omega arith) (passes f n l) ∙ passes-other n (λ i h. e i (omega arith)) l

    -- no pass after k does
    pub passes_at : (n k : ℕ) → k < n → ((i : ℕ) → k < i → i < n → (l : List A) → get_or (f i l) x z ≡ get_or l x z) → (l : List A) → get_or (passes f n l) x z ≡ get_or (f k (passes f k l)) x z
    unfolding passes
    passes_at zero k h e l = absurd (omega arith)
    passes_at (suc n) k h e l =
        ⊎_elim
        (λ y. e n y (omega arith) (passes f n l) ∙ passes_at n k y (λ i a b. e i a (omega arith)) l)
        (λ y. let q : n ≡ k = omega arith in rw q refl)
        (order k n)

-- BLOCKS

pub next_row : (i w : ℕ) → (i + 1) * w ≡ i * w + w
next_row i w = rw (add-mul, one-mul)

-- a loop's start and its turn: where the next block begins
pub rows_start : (b w : ℕ) → b ≡ b + 0 * w
rows_start b w = rw zero-mul (omega arith)

pub rows_next : (b w x i : ℕ) → x ≡ b + i * w → x + w ≡ b + (i + 1) * w
rows_next b w x i e = omega (arith, next_row i w)

-- a later row lies behind
pub row-after : (i j w : ℕ) → i < j → i * w + w ≤ j * w
row-after i j w h = let e : i + 1 ≤ j = omega arith in omega (arith, next_row i w, mul-le-mul_right w e)

module _ {ℓ} {A : Type ℓ} (b w : ℕ) (f : ℕ → ℕ → A) (n : ℕ) (z : A) where
  pub length-blocks : (k : ℕ) (l : List A) → length (blocks b w f n k l) ≡ length l
  length-blocks k l = length-passes (λ i. stored (b + i * w) (f i) n) (λ i l. length-stored (b + i * w) (f i) n l) k l

  -- and what is stored
  pub blocks-none : (l : List A) → l ≡ blocks b w f n 0 l
  blocks-none l = passes_none (λ i. stored (b + i * w) (f i) n) l

  pub blocks-next : (l : List A) (i : ℕ) (now next : List A) (x : ℕ) (g : ℕ → A) → x ≡ b + i * w → g ≡ f i → now ≡ blocks b w f n i l → next ≡ stored x g n now → next ≡ blocks b w f n (i + 1) l
  blocks-next l i now next x g e q p t = passes-next (λ i. stored (b + i * w) (f i) n) l i now next p (t ∙ rw (e, q))

  -- the same by other names
  pub blocks-are : (w' : ℕ) (f' : ℕ → ℕ → A) (n' k k' : ℕ) (l now : List A) → w ≡ w' → f ≡ f' → n ≡ n' → k ≡ k' → now ≡ blocks b w f n k l → now ≡ blocks b w' f' n' k' l
  blocks-are w' f' n' k k' l now p q r t e =
      e ∙ ap (λ (x : ℕ). blocks b x f n k l) p ∙ ap (λ (x : ℕ → ℕ → A). blocks b w' x n k l) q ∙ ap (λ (x : ℕ). blocks b w' f' x k l) r ∙ ap (λ (x : ℕ). blocks b w' f' n' x l) t

  pub blocks_at : (k : ℕ) (l : List A) (i j : ℕ) → n ≤ w → i < k → j < n → b + k * w ≤ length l → get_or (blocks b w f n k l) (b + i * w + j) z ≡ f i j
  blocks_at k l i j fit low here room =
      let now = blocks b w f n i l in
      let long = length-blocks i l in
      let behind = row-after i k w low in
      passes_at (λ i. stored (b + i * w) (f i) n) z (b + i * w + j) k i low
      (λ m lo hi l'. let a = row-after i m w lo in stored-before (b + m * w) (f m) n l' z (b + i * w + j) (omega arith)) l
      ∙ stored_at (b + i * w) (f i) n now z j here (omega arith)

  pub blocks-before : (k : ℕ) (l : List A) (x : ℕ) → x < b → get_or (blocks b w f n k l) x z ≡ get_or l x z
  blocks-before k l x h = passes-other (λ i. stored (b + i * w) (f i) n) z x k (λ i low l'. stored-before (b + i * w) (f i) n l' z x (omega arith)) l

  pub blocks-behind : (k : ℕ) (l : List A) (x : ℕ) → n ≤ w → b + k * w ≤ x → get_or (blocks b w f n k l) x z ≡ get_or l x z
  blocks-behind k l x fit h =
      passes-other (λ i. stored (b + i * w) (f i) n) z x k
      (λ i low l'. let a = row-after i k w low in stored-behind (b + i * w) (f i) n l' z x (omega arith)) l
