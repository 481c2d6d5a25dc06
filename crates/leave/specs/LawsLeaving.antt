-- Laws of what leaves: a row of bytes stored behind those by the rule, and tests of a part one by one and by all their bits together. Assumes nothing.
use Rattle.std.specs.Prelude.{ℕ, zero, suc, ◌+◌, ◌-◌, ◌*◌, ◌/◌, ◌%◌, ◌≤◌, ◌<◌, max, ◌≡◌, ◌||◌, Bool, true, false, List, length, get_or, refl}
use Rattle.std.proofs.Common.{arith, ap, sym, subst, ◌∙◌, ⊎_elim, ne_eqb}
use Rattle.std.proofs.lemmas.Bool.{eqb-false}
use Rattle.std.specs.Int.Bits.{bit_or, or_step}
use Rattle.std.specs.List.{fold, between}
use mir.Val.{bool_byte}
use Rattle.std.proofs.lemmas.List.Edits.{length-between, get_or-between}
use Rattle.shape.specs.Choice.{order}
use Rattle.shape.specs.Sizes.{detectors_of}
use Rattle.shape.specs.Counting.{quotient, rest}
use Rattle.window.specs.Lists.{over, by_place, any, bit}
use Rattle.window.specs.LawsLists.{over-next, over-all, any-not, any_none, any_next}
use Rattle.flat.specs.Codes.{defect_of, correction_of}
use Rattle.flat.specs.Stored.{stored}
use Rattle.flat.specs.Together.{fold-through}
use Rattle.leave.specs.Leaving.{detector_in}

-- entries stored behind those by a rule go on with it
pub over-stored {ℓ} : {A : Type ℓ} (f g : ℕ → A) (old : List A) (b m : ℕ) → b + m ≤ length old → ((i : ℕ) → i < m → g i ≡ f (b + i)) → stored b g m (over b f old) ≡ over (b + m) f old
unfolding stored
over-stored f g old b zero l q = let e : b ≡ b + 0 = omega arith in ap (λ (k : ℕ). over k f old) e
over-stored f g old b (suc m) l q =
    let e : b + m + 1 ≡ b + suc m = omega arith in
    over-next f old (b + m) (stored b g m (over b f old)) (g m) (omega arith) (over-stored f g old b m (omega arith) (λ i h. q i (omega arith))) (q m (omega arith))
    ∙ ap (λ (k : ℕ). over k f old) e

module _ (b d : ℕ) (nodes old : List ℕ) where
  abbrev pub escapes : ℕ → ℕ
  escapes i = bit (defect_of (get_or nodes (b + detector_in d i) 0))

  pub escape-next : (r at to : ℕ) (now next : List ℕ) → r * (d - 1) + (d - 1) ≤ length old → at ≡ b + 1 + r * (d + 1) → to ≡ r * (d - 1)
      → now ≡ over to escapes old → next ≡ stored to (λ i. bit (defect_of (get_or nodes (at + i) 0))) (d - 1) now → next ≡ over (to + (d - 1)) escapes old
  escape-next r at to now next room a t n e =
      e
      ∙ ap (λ (l : List ℕ). stored to (λ i. bit (defect_of (get_or nodes (at + i) 0))) (d - 1) l) n
      ∙ over-stored escapes (λ i. bit (defect_of (get_or nodes (at + i) 0))) old to (d - 1) (omega arith)
      (λ i l.
      let x : to + i ≡ r * (d - 1) + i = omega arith in
      let q : (to + i) / (d - 1) ≡ r = ap (λ (k : ℕ). k / (d - 1)) x ∙ quotient (d - 1) r i l in
      let p : (to + i) % (d - 1) ≡ i = ap (λ (k : ℕ). k % (d - 1)) x ∙ rest (d - 1) r i l in
      let y : at + i ≡ b + (r * (d + 1) + (i + 1)) = omega arith in
      ap (λ (k : ℕ). bit (defect_of (get_or nodes k 0))) (y ∙ sym (rw (q, p))))

  pub escape-done : (h r to : ℕ) (now : List ℕ) → length old ≡ detectors_of h d → r ≤ h → h ≤ r → to ≡ r * (d - 1) → now ≡ over to escapes old → now ≡ by_place (detectors_of h d) escapes
  escape-done h r to now size a c t n =
      let e : r ≡ h = omega arith in
      let f : to ≡ detectors_of h d = t ∙ ap (λ (k : ℕ). k * (d - 1)) e in
      n ∙ ap (λ (k : ℕ). over k escapes old) f ∙ over-all escapes (detectors_of h d) old (omega arith)

-- TESTS OF A PART

module _ (f : ℕ → Bool) where
  pub any-done : (i n : ℕ) (now : Bool) → now ≡ any i f → i ≤ n → n ≤ i → now ≡ any n f
  any-done i n now p a b = let e : i ≡ n = omega arith in p ∙ ap (λ (k : ℕ). any k f) e

-- a test as a byte
pub bit-byte : (b : Bool) → bool_byte b ≡ bit b
bit-byte true = refl
bit-byte false = refl

-- BITS TOGETHER

-- an answer that tells nothing
pub none_told : {A : Type 0} → false ≡ true → A
none_told e = let v : ◌≡◌ {A = ℕ} 0 1 = cc in absurd (omega arith)

-- numbers below 4 have no bit of a correction
pub small-blank : (l : List ℕ) (at n m bits : ℕ) → n ≤ m → ((j : ℕ) → j < m → get_or l (at + j) 0 ≤ bits) → bits < 4 → any n (λ j. correction_of (get_or l (at + j) 0)) ≡ false
small-blank l at n m bits e v b = any-not (λ j. correction_of (get_or l (at + j) 0)) n (λ j h. let x = v j (omega arith) in ne_eqb (get_or l (at + j) 0 / 4) 1 (λ y. omega arith))

or-second : (a b : ℕ) → bit_or a b / 2 % 2 ≡ max (a / 2 % 2) (b / 2 % 2)
or-second a b = let p = or_step a b in let q = or_step (a / 2) (b / 2) in omega (arith, p, q)

pub no-defects : (a b : ℕ) → defect_of (bit_or a b) ≡ false → (defect_of a ≡ false) × (defect_of b ≡ false)
no-defects a b e =
    let s = or-second a b in
    let n = eqb-false (bit_or a b / 2 % 2) 1 e in
    (ne_eqb (a / 2 % 2) 1 (λ y. n (omega (arith, s, y))), ne_eqb (b / 2 % 2) 1 (λ y. n (omega (arith, s, y))))

pub quiet_next : (l : List ℕ) (at i bits : ℕ) → (defect_of bits ≡ false → (j : ℕ) → j < i → defect_of (get_or l (at + j) 0) ≡ false)
    → defect_of (bit_or bits (get_or l (at + i) 0)) ≡ false → (j : ℕ) → j < i + 1 → defect_of (get_or l (at + j) 0) ≡ false
quiet_next l at i bits v e j h =
    let o = no-defects bits (get_or l (at + i) 0) e in
    ⊎_elim (v o.0 j) (λ y. let k : i ≡ j = omega arith in subst (λ (x : ℕ). defect_of (get_or l (at + x) 0) ≡ false) k o.1) (order j i)

-- of a part of a list, by all its bits
module _ (l : List ℕ) (at end : ℕ) (fits : end ≤ length l) where
  pub quiet-most : defect_of (fold bit_or 0 (between at end l)) ≡ false → (i : ℕ) → at + i < end → defect_of (get_or l (at + i) 0) ≡ false
  quiet-most e i h =
      let long = length-between l at end fits in
      fold-through bit_or 0 (between at end l) (λ n b. defect_of b ≡ false → (j : ℕ) → j < n → defect_of (get_or l (at + j) 0) ≡ false)
      (λ n b y v. subst (λ (x : ℕ). defect_of (bit_or b x) ≡ false → (j : ℕ) → j < n + 1 → defect_of (get_or l (at + j) 0) ≡ false) (sym (get_or-between l at end n 0 (omega arith))) (quiet_next l at n b v))
      (λ y j z. absurd (omega arith))
      e i (omega arith)

  -- a test of its entries
  pub any-part : (f : ℕ → Bool) (n : ℕ) → at + n ≡ end → fold (λ b v. b || f v) false (between at end l) ≡ any n (λ i. f (get_or l (at + i) 0))
  any-part f n e =
      let g : ℕ → Bool = λ i. f (get_or l (at + i) 0) in
      let long : length (between at end l) ≡ n = omega (arith, length-between l at end fits) in
      fold-through (λ b v. b || f v) false (between at end l) (λ i b. b ≡ any i g)
      (λ i b y v. any_next g i b (f (get_or (between at end l) i 0)) v (ap f (get_or-between l at end i 0 (omega arith))))
      (sym (any_none g))
      ∙ ap (λ (k : ℕ). any k g) long
