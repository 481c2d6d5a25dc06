-- ENTRIES STORED ONE AFTER THE OTHER, from an offset on, by a rule. Assumes nothing.
use Prim.Native.Nat.{ℕ, zero, suc, ◌+◌, ◌≤◌, ◌<◌}
use Rattle.std.proofs.Common.{add-one, ap, ◌∙◌, get_or-set_same}
use native.Mathlib.Omega.{arith}
use Rattle.std.specs.Prelude.{◌≡◌, List, get_or, set}
use Rattle.std.proofs.Math.Path.{refl}
use Rattle.std.proofs.Math.ListN.{length, length-set}
use Rattle.std.proofs.Math.Seq.{get_or-set_other}
use Rattle.shape.specs.Choice.{order}
use Rattle.std.proofs.Math.Logic.{⊎_elim}

unfoldable pub stored {ℓ} : {A : Type ℓ} → ℕ → (ℕ → A) → ℕ → List A → List A
stored b f zero l = l
stored b f (suc i) l = set (stored b f i l) (b + i) (f i)

module _ {ℓ} {A : Type ℓ} (b : ℕ) (f : ℕ → A) where
  -- a loop's start and its turn
  pub stored-none : (l : List A) → l ≡ stored b f 0 l
  unfolding stored
  stored-none l = refl

  pub stored_next : (l : List A) (i : ℕ) (now : List A) (v : A) → now ≡ stored b f i l → v ≡ f i → set now (b + i) v ≡ stored b f (i + 1) l
  unfolding stored
  stored_next l i now v p q = rw (p, q, add-one)

  -- and its end
  pub stored-done : (l : List A) (i n : ℕ) (now : List A) → now ≡ stored b f i l → i ≤ n → n ≤ i → now ≡ stored b f n l
  stored-done l i n now p x y = let e : i ≡ n = omega arith in p ∙ ap (λ (j : ℕ). stored b f j l) e

  pub length-stored : (n : ℕ) (l : List A) → length (stored b f n l) ≡ length l
  unfolding stored
  length-stored zero l = refl
  length-stored (suc n) l = length-set (stored b f n l) (b + n) (f n) ∙ length-stored n l

  -- what stands where: the new one, and elsewhere the old one
  pub stored_at : (n : ℕ) (l : List A) (z : A) (i : ℕ) → i < n → b + n ≤ length l → get_or (stored b f n l) (b + i) z ≡ f i
  unfolding stored
  stored_at zero l z i h r = absurd (omega arith)
  stored_at (suc n) l z i h r =
      let long = length-stored n l in
      let low : b + n < length (stored b f n l) = omega arith in
      ⊎_elim
      (λ y. get_or-set_other (stored b f n l) (b + n) (b + i) (f n) z (λ (e : b + i ≡ b + n). omega arith) ∙ stored_at n l z i y (omega arith))
      (λ y. let e : i ≡ n = omega arith in rw e (get_or-set_same (stored b f n l) (b + n) (f n) z low))
      (order i n)

  pub stored-before : (n : ℕ) (l : List A) (z : A) (x : ℕ) → x < b → get_or (stored b f n l) x z ≡ get_or l x z
  unfolding stored
  stored-before zero l z x h = refl
  stored-before (suc n) l z x h = get_or-set_other (stored b f n l) (b + n) x (f n) z (λ (e : x ≡ b + n). omega arith) ∙ stored-before n l z x h

  pub stored-behind : (n : ℕ) (l : List A) (z : A) (x : ℕ) → b + n ≤ x → get_or (stored b f n l) x z ≡ get_or l x z
  unfolding stored
  stored-behind zero l z x h = refl
  stored-behind (suc n) l z x h = get_or-set_other (stored b f n l) (b + n) x (f n) z (λ (e : x ≡ b + n). omega arith) ∙ stored-behind n l z x (omega arith)

-- a loop's turn in place: the entry is read, and stored anew
module _ {ℓ} {A : Type ℓ} (b : ℕ) (f : ℕ → A → A) (d : A) (l : List A) where
  abbrev by_place_lem : ℕ → A
  by_place_lem i = f i (get_or l (b + i) d)

  pub place-next : (i : ℕ) (now : List A) (v : A) → now ≡ stored b by_place_lem i l → v ≡ f i (get_or now (b + i) d) → set now (b + i) v ≡ stored b by_place_lem (i + 1) l
  place-next i now v p q =
      stored_next b by_place_lem l i now v p
      (q ∙ ap (λ (x : A). f i x) (ap (λ (m : List A). get_or m (b + i) d) p ∙ stored-behind b by_place_lem i l d (b + i) (omega arith)))
