-- Lists by place. Assumes nothing.
use Prim.Native.Nat.{ℕ, zero, suc, ◌+◌, ◌<◌}
use Rattle.std.proofs.Common.{add-zero, add-suc, suc-add, le_of_suc-le-suc, not-suc-le-zero, ◌∙◌}
use Rattle.std.specs.Prelude.{◌≡◌, List, [], ◌∷◌, length, get_or}
use Rattle.std.proofs.Math.Path.{refl, ap, sym}

-- f i, f (i + 1), .. : n entries
unfoldable pub from {ℓ} : {A : Type ℓ} → ℕ → ℕ → (ℕ → A) → List A
from i zero f = []
from i (suc n) f = f i ∷ from (suc i) n f

module _ {ℓ} {A : Type ℓ} (f : ℕ → A) where
  pub length_from : (i n : ℕ) → length (from i n f) ≡ n
  unfolding from
  length_from i zero = refl
  length_from i (suc n) = ap suc (length_from (suc i) n)

  pub get_or-from : (i n j : ℕ) (d : A) → j < n → get_or (from i n f) j d ≡ f (i + j)
  unfolding from
  get_or-from i zero j d h = absurd (not-suc-le-zero h)
  get_or-from i (suc n) zero d h = ap f (sym (add-zero i))
  get_or-from i (suc n) (suc j) d h = get_or-from (suc i) n j d (le_of_suc-le-suc h) ∙ ap f (suc-add i j ∙ sym (add-suc i j))
