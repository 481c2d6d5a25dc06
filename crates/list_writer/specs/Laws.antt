-- Laws of measured lists and of gaps, for those who use the definitions. Assumes nothing.
use Rattle.std.specs.Prelude.{ℕ, zero, suc, ◌+◌, ◌-◌, ◌≤◌, ◌<◌, min, max, ◌≡◌, refl, Bool, true, false, List, [], ◌∷◌, ◌++◌, leb, eqb, length, take, drop, get_or, replicate}
use Rattle.std.proofs.Common.{add-zero, arith, sym, ◌∙◌, ap, append-nil, le-leb, leb-true, leb-false, eqb-true, take-append-drop, drop_of_length-le, length-drop, drop-drop, length-take-le}
use Rattle.std.proofs.lemmas.Bool.{lt-leb, eqb-false}
use Rattle.std.specs.Int.Bits.{bit_or, or_add_and}
use Rattle.std.proofs.lemmas.Nat.{and_le_l, and_le_r, or_lt}
use Rattle.refusal.specs.Bytes.{next_of}
use Rattle.number.specs.Number.{written}
use Rattle.number.specs.Laws.{written_one}
use Rattle.list.specs.Sheet.{ones, skips, listed, are_bits}
use Rattle.list.specs.Laws.{ones-nil, ones-set, ones-unset, skips-nil, skips-set, skips-unset, listed-is, bits-nil, bits-one, bits-not}
use Rattle.list_writer.specs.Gaps.{top, Measured, Gap, Found}

-- THE LARGEST ENTRY

pub top-nil : top [] ≡ 0
unfolding top
top-nil = refl

pub top-cons : (x : ℕ) (xs : List ℕ) → top (x ∷ xs) ≡ max x (top xs)
unfolding top
top-cons x xs = refl

pub top-zeros : (n : ℕ) → top (replicate n 0) ≡ 0
top-zeros zero = top-nil
top-zeros (suc n) = top-cons 0 (replicate n 0) ∙ omega (arith, top-zeros n)

-- two numbers' bits together are 0, 1 or more as the larger of the two is
pub or-tells : (a b : ℕ) → min (bit_or a b) 2 ≡ min (max a b) 2
or-tells a b = go (leb (max a b) 1) refl
  where
    large : max a b ≤ bit_or a b
    large = omega (arith, or_add_and a b, and_le_l a b, and_le_r a b)

    sum : bit_or a b ≤ a + b
    sum = omega (arith, or_add_and a b)

    go : (t : Bool) → leb (max a b) 1 ≡ t → min (bit_or a b) 2 ≡ min (max a b) 2
    go true e =
        let h : max a b ≤ 1 = leb-true (max a b) 1 e in
        let l : bit_or a b < 2 = or_lt 1 a b (omega (arith, h)) (omega (arith, h)) in
        omega (arith, large, sum, l, h)
    go false e = let h : 1 < max a b = leb-false (max a b) 1 e in omega (arith, large, h)

-- bytes are bits where the largest is
pub bits-top : (l : List ℕ) → are_bits l ≡ leb (top l) 1
bits-top [] = bits-nil ∙ sym (ap (λ (n : ℕ). leb n 1) top-nil)
bits-top (x ∷ xs) = go (leb x 1) refl (bits-top xs)
  where
    go : (t : Bool) → leb x 1 ≡ t → are_bits xs ≡ leb (top xs) 1 → are_bits (x ∷ xs) ≡ leb (top (x ∷ xs)) 1
    go true e r = bits-one x xs (leb-true x 1 e) ∙ r ∙ same (leb (top xs) 1) refl
      where
        same : (t : Bool) → leb (top xs) 1 ≡ t → leb (top xs) 1 ≡ leb (top (x ∷ xs)) 1
        same true k = k ∙ sym (le-leb (top (x ∷ xs)) 1 (omega (arith, top-cons x xs, leb-true x 1 e, leb-true (top xs) 1 k)))
        same false k = k ∙ sym (lt-leb (top (x ∷ xs)) 1 (omega (arith, top-cons x xs, leb-false (top xs) 1 k)))
    go false e r =
        bits-not x xs (leb-false x 1 e) ∙ sym (lt-leb (top (x ∷ xs)) 1 (omega (arith, top-cons x xs, leb-false x 1 e)))

-- the same by a number that tells it
pub bits-told : (l : List ℕ) (n : ℕ) → min n 2 ≡ min (top l) 2 → are_bits l ≡ leb n 1
bits-told l n e = bits-top l ∙ go (leb (top l) 1) refl
  where
    go : (t : Bool) → leb (top l) 1 ≡ t → leb (top l) 1 ≡ leb n 1
    go true k = k ∙ sym (le-leb n 1 (omega (arith, e, leb-true (top l) 1 k)))
    go false k = k ∙ sym (lt-leb n 1 (omega (arith, e, leb-false (top l) 1 k)))

-- ENTRIES THAT ARE ALL 0

module _ (ys : List ℕ) where
  zero-ones : (xs : List ℕ) → top xs ≡ 0 → ones (xs ++ ys) ≡ ones ys
  zero-ones [] e = refl
  zero-ones (x ∷ xs) e = ones-unset x (xs ++ ys) (λ h. absurd (omega (arith, top-cons x xs, e, h))) ∙ zero-ones xs (omega (arith, top-cons x xs, e))

  zero-skips : (xs : List ℕ) (k : ℕ) → top xs ≡ 0 → skips k (xs ++ ys) ≡ skips (k + length xs) ys
  zero-skips [] k e = ap (λ (n : ℕ). skips n ys) (sym (add-zero k))
  zero-skips (x ∷ xs) k e =
      let n : k + 1 + length xs ≡ k + length (x ∷ xs) = omega arith in
      skips-unset k x (xs ++ ys) (λ h. absurd (omega (arith, top-cons x xs, e, h)))
      ∙ zero-skips xs (k + 1) (omega (arith, top-cons x xs, e))
      ∙ ap (λ (m : ℕ). skips m ys) n

module _ (l : List ℕ) (e : top l ≡ 0) where
  pub ones-zero : ones l ≡ 0
  ones-zero = ap ones (sym (append-nil l)) ∙ zero-ones [] l e ∙ ones-nil

  pub listed-zero : listed l ≡ 0 ∷ []
  listed-zero =
      let s : skips 0 l ≡ [] = ap (λ (m : List ℕ). skips 0 m) (sym (append-nil l)) ∙ zero-skips [] l 0 e ∙ skips-nil (0 + length l) in
      listed-is l ∙ rw (ones-zero, s, written_one 0 (omega arith)) refl

  pub measured-zero : Measured l 0 0 1
  measured-zero = record { bits_are = omega (arith, e); count-is = sym ones-zero; bytes-are = sym (ap length listed-zero) }

-- where no entry is set there is no skip
pub skips-none : (k : ℕ) (l : List ℕ) → ones l ≡ 0 → skips k l ≡ []
skips-none k [] e = skips-nil k
skips-none k (x ∷ xs) e = go (eqb x 1) refl (skips-none (k + 1) xs)
  where
    go : (t : Bool) → eqb x 1 ≡ t → (ones xs ≡ 0 → skips (k + 1) xs ≡ []) → skips k (x ∷ xs) ≡ []
    go true h r = absurd (omega (arith, e, ones-set x xs (eqb-true x 1 h)))
    go false h r = skips-unset k x xs (eqb-false x 1 h) ∙ r (sym (ones-unset x xs (eqb-false x 1 h)) ∙ e)

-- GAPS

module _ (l : List ℕ) where
  pub gap-none : (from : ℕ) → from ≤ length l → Gap l from from
  gap-none from h =
      record { forward = omega arith; within = h; counted = refl; skipped = λ k. let e : k ≡ k + (from - from) = omega arith in ap (λ (n : ℕ). skips n (drop from l)) e }

  pub gap-join : (from mid to : ℕ) → Gap l from mid → Gap l mid to → Gap l from to
  gap-join from mid to g h =
      record {
        forward = omega (arith, g.forward, h.forward);
        within = h.within;
        counted = g.counted ∙ h.counted;
        skipped = λ k. let e : k + (mid - from) + (to - mid) ≡ k + (to - from) = omega (arith, g.forward, h.forward) in g.skipped k ∙ h.skipped (k + (mid - from)) ∙ ap (λ (n : ℕ). skips n (drop to l)) e;
      }

  pub gap-one : (at : ℕ) → at < length l → (get_or l at 0 ≡ 1 → ⊥) → Gap l at (at + 1)
  gap-one at h no' =
      record {
        forward = omega arith;
        within = omega arith;
        counted = ap ones (next_of l at h) ∙ ones-unset (get_or l at 0) (drop (at + 1) l) no';
        skipped = λ k. let e : k + 1 ≡ k + (at + 1 - at) = omega arith in ap (λ (m : List ℕ). skips k m) (next_of l at h) ∙ skips-unset k (get_or l at 0) (drop (at + 1) l) no' ∙ ap (λ (n : ℕ). skips n (drop (at + 1) l)) e;
      }

  -- a block of n entries that are all 0
  pub gap_block : (at n : ℕ) → at + n ≤ length l → top (take n (drop at l)) ≡ 0 → Gap l at (at + n)
  gap_block at n h z =
      let parts : take n (drop at l) ++ drop (at + n) l ≡ drop at l = ap (λ (m : List ℕ). take n (drop at l) ++ m) (sym (drop-drop n at l)) ∙ take-append-drop n (drop at l) in
      let long : length (take n (drop at l)) ≡ n = length-take-le n (drop at l) (omega (arith, length-drop at l)) in
      record {
        forward = omega arith;
        within = h;
        counted = ap ones (sym parts) ∙ zero-ones (drop (at + n) l) (take n (drop at l)) z;
        skipped = λ k. let e : k + length (take n (drop at l)) ≡ k + (at + n - at) = omega (arith, long) in ap (λ (m : List ℕ). skips k m) (sym parts) ∙ zero-skips (drop (at + n) l) (take n (drop at l)) k z ∙ ap (λ (m : ℕ). skips m (drop (at + n) l)) e;
      }

  module _ (from to : ℕ) (f : Found l from to) where
    -- a set entry is left, so it was found
    pub found_inside : 0 < ones (drop from l) → to < length l
    found_inside h = go (leb (length l) to) refl
      where
        go : (t : Bool) → leb (length l) to ≡ t → to < length l
        go true e = absurd (omega (arith, h, f.gap.counted, ap ones (drop_of_length-le l (leb-true (length l) to e)), ones-nil))
        go false e = leb-false (length l) to e

    module _ (h : to < length l) where
      pub found-ones : ones (drop from l) ≡ ones (drop (to + 1) l) + 1
      found-ones = f.gap.counted ∙ ap ones (next_of l to h) ∙ ones-set (get_or l to 0) (drop (to + 1) l) (f.next h)

      pub found-skips : skips 0 (drop from l) ≡ written (to - from) ++ skips 0 (drop (to + 1) l)
      found-skips =
          let e : 0 + (to - from) ≡ to - from = omega arith in
          f.gap.skipped 0
          ∙ ap (λ (n : ℕ). skips n (drop to l)) e
          ∙ ap (λ (m : List ℕ). skips (to - from) m) (next_of l to h)
          ∙ skips-set (to - from) (get_or l to 0) (drop (to + 1) l) (f.next h)
