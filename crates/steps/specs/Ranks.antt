-- Counting the places at which a test passes, and finding the nth of them: there and back, for any test. Assumes nothing.
use Prim.Native.Nat.{ℕ, zero, suc, ◌+◌, ◌≤◌, ◌<◌}
use Rattle.std.proofs.Common.{add-zero, add-suc, sym, ◌∙◌}
use native.Mathlib.Omega.{arith}
use Rattle.std.specs.Prelude.{◌≡◌, Bool, true, false, ltb}
use Rattle.std.proofs.Math.Path.{refl}
use Rattle.std.proofs.Math.Logic.{⊎_elim}
use borrow.Author.Tests.{lt-ltb, le-ltb}
use Rattle.shape.specs.Choice.{order}

abbrev pub bit : Bool → ℕ
bit true = 1
bit false = 0

-- how many places below n pass
unfoldable pub rank : (ℕ → Bool) → ℕ → ℕ
rank f zero = 0
rank f (suc n) = rank f n + bit (f n)

-- the place below m that passes and has i such places below it
unfoldable pub pick : (ℕ → Bool) → ℕ → ℕ → ℕ
pick f zero i = 0
pick f (suc m) i = elim (ltb i (rank f m)) [ true ↦ pick f m i | false ↦ m ]

bit_le : (b : Bool) → bit b ≤ 1
bit_le true = omega arith
bit_le false = omega arith

bit-some : (b : Bool) → 1 ≤ bit b → b ≡ true
bit-some true l = refl
bit-some false l = absurd (omega arith)

module _ (f : ℕ → Bool) where
  pub rank_mono : (n m : ℕ) → n ≤ m → rank f n ≤ rank f m
  unfolding rank
  rank_mono n zero l = let e : n ≡ 0 = omega arith in rw e (omega arith)
  rank_mono n (suc m) l =
      ⊎_elim (λ a. let x = rank_mono n m (omega arith) in omega arith) (λ (a : suc m ≤ n). let e : n ≡ suc m = omega arith in rw e (omega arith)) (order n (suc m))

  -- a place that passes has a number below the count
  pub rank_lt : (n m : ℕ) → f n ≡ true → n < m → rank f n < rank f m
  unfolding rank
  rank_lt n m e l =
      let a : rank f (suc n) ≡ rank f n + 1 = rw (rank, e) refl in
      omega (arith, a, rank_mono (suc n) m l)

  pick-below : (m i : ℕ) → i < rank f m → pick f (suc m) i ≡ pick f m i
  unfolding pick
  pick-below m i l = rw (pick, lt-ltb i (rank f m) l) refl

  pick-here : (m i : ℕ) → rank f m ≤ i → pick f (suc m) i ≡ m
  unfolding pick
  pick-here m i l = rw (pick, le-ltb i (rank f m) l) refl

  -- from a place to its number and back
  pub pick-rank : (m n : ℕ) → f n ≡ true → n < m → pick f m (rank f n) ≡ n
  pick-rank zero n e l = absurd (omega arith)
  pick-rank (suc m) n e l =
      ⊎_elim (λ a. pick-below m (rank f n) (rank_lt n m e a) ∙ pick-rank m n e a)
      (λ (a : m ≤ n). let z : n ≡ m = omega arith in pick-here m (rank f n) (rw z (omega arith)) ∙ sym z)
      (order n m)

  -- from a number to its place and back
  pub record Picked (m i : ℕ) : Type 0 where
    pub below : pick f m i < m
    pub passes : f (pick f m i) ≡ true
    pub rank_is : rank f (pick f m i) ≡ i

  pub picked : (m i : ℕ) → i < rank f m → Picked m i
  unfolding rank
  picked zero i l = absurd (omega arith)
  picked (suc m) i l =
      ⊎_elim
      (λ a. let p = picked m i a in
      let e = pick-below m i a in
      let b = p.below in
      record { below = rw e (omega arith); passes = rw e p.passes; rank_is = rw e p.rank_is })
      (λ a. let e = pick-here m i a in
      let c = bit_le (f m) in
      record { below = rw e (omega arith); passes = rw e (bit-some (f m) (omega arith)); rank_is = rw e (omega arith) })
      (order i (rank f m))

  -- never more than there are
  rank-le : (n : ℕ) → rank f n ≤ n
  unfolding rank
  rank-le zero = omega arith
  rank-le (suc n) = let c = bit_le (f n) in let x = rank-le n in omega arith

  -- if all are counted, each passes
  pub rank-all : (n : ℕ) → rank f n ≡ n → (x : ℕ) → x < n → f x ≡ true
  unfolding rank
  rank-all zero e x l = absurd (omega arith)
  rank-all (suc n) e x l =
      let c = bit_le (f n) in
      let d = rank-le n in
      ⊎_elim (λ a. rank-all n (omega arith) x a) (λ a. let z : x ≡ n = omega arith in rw z (bit-some (f n) (omega arith))) (order x n)

-- counting goes on behind a place
pub rank-add : (f : ℕ → Bool) (a b : ℕ) → rank f (a + b) ≡ rank f a + rank (λ x. f (a + x)) b
unfolding rank
rank-add f a zero = rw (add-zero a) (omega arith)
rank-add f a (suc b) = rw (add-suc a b, rank) (omega (arith, rank-add f a b))

-- tests that agree give the same count
pub rank_same : (f g : ℕ → Bool) (n : ℕ) → ((x : ℕ) → x < n → f x ≡ g x) → rank f n ≡ rank g n
unfolding rank
rank_same f g zero e = refl
rank_same f g (suc n) e = rw (rank_same f g n (λ x l. e x (omega arith)), e n (omega arith)) refl
