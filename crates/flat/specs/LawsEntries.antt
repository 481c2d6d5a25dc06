-- Laws of entries and of loops over them: inside the nodes or outside, rows of a sheet, and a loop's end. Assumes nothing.
use Rattle.std.specs.Prelude.{ℕ, ◌+◌, ◌*◌, ◌≤◌, ◌<◌, ◌≡◌, true, false, ◌&&◌, ◌⊎◌, leb, ltb}
use Rattle.std.proofs.Common.{mul-le-mul, mul-le-mul_right, add-mul, one-mul, arith, ap, ◌∙◌, inl, inr, le-leb, lt-ltb, ltb-true, ltb-false, leb-true, leb-false}
use Rattle.shape.specs.Choice.{whether}
use Rattle.shape.specs.Ranges.{Ranged}
use Rattle.shape.proofs.Ranges.{halves, both}
use Rattle.shape.specs.Sizes.{max_distance}
use Rattle.flat.specs.Entries.{within}

pub inside : (n x : ℕ) → within n x ≡ true → (512 ≤ x) × (x < 512 + n)
inside n x e = let h = halves (leb 512 x) (ltb x (512 + n)) e in (leb-true 512 x h.0, ltb-true x (512 + n) h.1)

pub within_by : (n x : ℕ) → 512 ≤ x → x < 512 + n → within n x ≡ true
within_by n x a b = both _ _ (le-leb 512 x a) (lt-ltb x (512 + n) b)

pub outside : (n x : ℕ) → within n x ≡ false → (x < 512) ⊎ (512 + n ≤ x)
outside n x e =
    whether (leb 512 x)
    (λ t. inr (ltb-false x (512 + n) (let r : (leb 512 x && ltb x (512 + n)) ≡ false = e in rw t at r)))
    (λ t. inl (leb-false 512 x t))

-- ROWS of k entries

pub one_more : (r k : ℕ) → (r + 1) * k ≡ r * k + k
one_more r k = add-mul r 1 k ∙ ap (λ (x : ℕ). r * k + x) (one-mul k)

-- a row ends where the next begins
pub row_fits : (r h k : ℕ) → r < h → r * k + k ≤ h * k
row_fits r h k l = let a : r + 1 ≤ h = omega arith in omega (arith, mul-le-mul_right k a, one_more r k)

-- every row of a shape in range is one of a sheet's 240 entries
pub row_low : (h d r : ℕ) → Ranged h d → r < h → r * (d + 1) + (d + 1) ≤ 240
row_low h d r x l = let b : d + 1 ≤ max_distance + 1 = omega (arith, x.d-max) in omega (arith, mul-le-mul x.h-max b, row_fits r h (d + 1) l)

-- A LOOP'S END: what holds of the count holds of the number
pub at-end : (n i : ℕ) (P : ℕ → Type 0) → i ≤ n → n ≤ i → P i → P n
at-end n i P a b p = let e : i ≡ n = omega arith in rw e at p
