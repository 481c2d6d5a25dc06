-- ENTRIES TAKEN TOGETHER, by a fold. Assumes nothing.
use Rattle.std.proofs.Common.{arith, sym, subst, ⊎_elim}
use Rattle.std.specs.Prelude.{◌≡◌, ℕ, zero, suc, ◌+◌, ◌≤◌, ◌<◌, List, take, length, get_or}
use Rattle.std.specs.List.{fold, between}
use Rattle.std.specs.Int.Bits.{bit_or, or_add_and}
use Rattle.std.proofs.lemmas.Nat.{and_le_l, and_le_r}
use Rattle.std.proofs.lemmas.List.Sums.{fold_more}
use Rattle.std.proofs.Math.Seq.{take-length}
use Rattle.std.proofs.lemmas.List.Edits.{length-between, get_or-between}
use Rattle.shape.specs.Choice.{order}

-- what holds of the entries so far holds of all
module _ {B : Type 0} (h : B → ℕ → B) (a : B) (xs : List ℕ) (P : ℕ → B → Type 0) (step : (i : ℕ) (b : B) → i < length xs → P i b → P (i + 1) (h b (get_or xs i 0))) (start : P 0 a) where
  along : (n : ℕ) → n ≤ length xs → P n (fold h a (take n xs))
  along zero l = start
  along (suc n) l =
      let e : suc n ≡ n + 1 = omega arith in
      let m = fold_more h a xs n 0 (omega arith) in
      subst (λ (k : ℕ). P k (fold h a (take k xs))) (sym e) (subst (P (n + 1)) (sym m) (step n (fold h a (take n xs)) (omega arith) (along n (omega arith))))

  pub fold-through : P (length xs) (fold h a xs)
  fold-through = subst (λ (l : List ℕ). P (length xs) (fold h a l)) (take-length xs) (along (length xs) (omega arith))

pub or-least : (a b : ℕ) → (a ≤ bit_or a b) × (b ≤ bit_or a b)
or-least a b = let o = or_add_and a b in let p = and_le_l a b in let q = and_le_r a b in (omega (arith, o, p, q), omega (arith, o, p, q))

-- no entry is more than all bits together
pub bits-next : (l : List ℕ) (at i bits : ℕ) → ((j : ℕ) → j < i → get_or l (at + j) 0 ≤ bits) → (j : ℕ) → j < i + 1 → get_or l (at + j) 0 ≤ bit_or bits (get_or l (at + i) 0)
bits-next l at i bits v j h =
    let o = or-least bits (get_or l (at + i) 0) in
    ⊎_elim (λ y. omega (arith, v j y, o.0)) (λ y. let k : i ≡ j = omega arith in subst (λ (x : ℕ). get_or l (at + x) 0 ≤ bit_or bits (get_or l (at + i) 0)) k o.1) (order j i)

-- of a part of a list
module _ (l : List ℕ) (at end : ℕ) (fits : end ≤ length l) where
  pub bits-most : (i : ℕ) → at + i < end → get_or l (at + i) 0 ≤ fold bit_or 0 (between at end l)
  bits-most i h =
      let long = length-between l at end fits in
      fold-through bit_or 0 (between at end l) (λ n b. (j : ℕ) → j < n → get_or l (at + j) 0 ≤ b)
      (λ n b y v. subst (λ (x : ℕ). (j : ℕ) → j < n + 1 → get_or l (at + j) 0 ≤ bit_or b x) (sym (get_or-between l at end n 0 (omega arith))) (bits-next l at n b v))
      (λ j y. absurd (omega arith))
      i (omega arith)
