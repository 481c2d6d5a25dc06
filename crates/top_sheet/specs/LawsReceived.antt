-- The new defects byte by byte: a loop's turns, blocks with none, and that on a cleared sheet they are received. Assumes nothing.
use Prim.Native.Nat.{ℕ, zero, suc, ◌+◌, ◌-◌, ◌*◌, ◌/◌, ◌%◌, ◌≤◌, ◌<◌}
use Rattle.std.proofs.Common.{mod-lt, div-add-mod', div-lt_iff_lt-mul, add-one, sym, ◌∙◌, ne_eqb}
use native.Mathlib.Omega.{arith}
use Rattle.std.specs.Prelude.{◌≡◌, set}
use Rattle.std.proofs.Math.Path.{refl, ap, subst}
use Rattle.std.proofs.Math.Bool.{false}
use mathlib.Core.List.{List}
use Rattle.std.proofs.Math.Logic.{⊎_elim}
use Rattle.std.specs.Int.Bits.{bit_or, or_add_and}
use Rattle.std.proofs.lemmas.Nat.{and_le_l, and_le_r}
use Rattle.std.specs.List.{fold, between}
use Rattle.std.proofs.Math.Dec.{eqb}
use Rattle.std.proofs.Math.ListN.{length, get_or, length-set}
use Rattle.std.proofs.Math.Seq.{get_or-set_same, get_or-set_other}
use Rattle.shape.specs.Choice.{if-true, if-false, whether, order}
use Rattle.shape.specs.Counting.{quotient, rest}
use Rattle.shape.specs.Ranges.{Ranged}
use Rattle.shape.specs.Sizes.{detectors_of}
use Rattle.flat.specs.Codes.{node_code}
use Rattle.flat.specs.Entries.{plane}
use Rattle.flat.specs.LawsEntries.{row_fits, row_low}
use Rattle.flat.specs.Together.{bits-most}
use Rattle.top_sheet.specs.Received.{Received, place_of, put_one, put_from}

-- A BLOCK OF BYTES: none has a bit
pub block-blank : (l : List ℕ) (at n : ℕ) → at + n ≤ length l → fold bit_or 0 (between at (at + n) l) ≡ 0 → (i : ℕ) → i < n → get_or l (at + i) 0 ≡ 0
block-blank l at n r e i h = let v = bits-most l at (at + n) r i (omega arith) in omega (arith, v, e)

pub none-next : (l : List ℕ) (at i seen : ℕ) → (seen ≡ 0 → (j : ℕ) → j < i → get_or l (at + j) 0 ≡ 0) → bit_or seen (get_or l (at + i) 0) ≡ 0 → (j : ℕ) → j < i + 1 → get_or l (at + j) 0 ≡ 0
none-next l at i seen v e j h =
    let o = or_add_and seen (get_or l (at + i) 0) in
    let p = and_le_l seen (get_or l (at + i) 0) in
    let q = and_le_r seen (get_or l (at + i) 0) in
    let a : seen ≡ 0 = omega (arith, o, p, q) in
    let b : get_or l (at + i) 0 ≡ 0 = omega (arith, o, p, q) in
    ⊎_elim (v a j) (λ y. let k : i ≡ j = omega arith in subst (λ (x : ℕ). get_or l (at + x) 0 ≡ 0) k b) (order j i)

-- A LOOP'S TURNS
module _ (d : ℕ) (bytes : List ℕ) where
  pub put-none : (from : ℕ) (l : List ℕ) → l ≡ put_from d bytes from 0 l
  unfolding put_from
  put-none from l = refl

  pub put_next : (from i : ℕ) (l now next : List ℕ) → now ≡ put_from d bytes from i l → next ≡ put_one d (from + i) (get_or bytes (from + i) 0) now → next ≡ put_from d bytes from (i + 1) l
  unfolding put_from
  put_next from i l now next p q = q ∙ ap (λ (m : List ℕ). put_one d (from + i) (get_or bytes (from + i) 0) m) p ∙ rw (add-one i)

  pub put-done : (from i n : ℕ) (l now : List ℕ) → now ≡ put_from d bytes from i l → i ≤ n → n ≤ i → now ≡ put_from d bytes from n l
  put-done from i n l now p a b = let e : i ≡ n = omega arith in p ∙ ap (λ (k : ℕ). put_from d bytes from k l) e

  -- bytes that are 0 put nothing
  pub put-blank : (from n : ℕ) (l : List ℕ) → ((i : ℕ) → i < n → get_or bytes (from + i) 0 ≡ 0) → put_from d bytes from n l ≡ l
  unfolding put_from
  put-blank from zero l z = refl
  put-blank from (suc n) l z =
      let e = z n (omega arith) in
      if-false (eqb (get_or bytes (from + n) 0) 1) _ _ (ne_eqb (get_or bytes (from + n) 0) 1 (λ y. omega arith)) ∙ put-blank from n l (λ i h. z i (omega arith))

  -- a part behind those passed
  pub put_on : (i m : ℕ) (l : List ℕ) → put_from d bytes i m (put_from d bytes 0 i l) ≡ put_from d bytes 0 (i + m) l
  unfolding put_from
  put_on i zero l = let e : i ≡ i + 0 = omega arith in ap (λ (k : ℕ). put_from d bytes 0 k l) e
  put_on i (suc m) l =
      let e : i + m + 1 ≡ i + suc m = omega arith in
      let o : i + m ≡ 0 + (i + m) = omega arith in
      put_next 0 (i + m) l (put_from d bytes i m (put_from d bytes 0 i l)) (put_one d (i + m) (get_or bytes (i + m) 0) (put_from d bytes i m (put_from d bytes 0 i l))) (put_on i m l)
      (ap (λ (k : ℕ). put_one d k (get_or bytes k 0) (put_from d bytes i m (put_from d bytes 0 i l))) o)
      ∙ ap (λ (k : ℕ). put_from d bytes 0 k l) e

  pub part-on : (i n : ℕ) (l now next : List ℕ) → now ≡ put_from d bytes 0 i l → next ≡ put_from d bytes i n now → next ≡ put_from d bytes 0 (i + n) l
  part-on i n l now next p q = q ∙ ap (λ (m : List ℕ). put_from d bytes i n m) p ∙ put_on i n l

  pub length-put : (from n : ℕ) (l : List ℕ) → length (put_from d bytes from n l) ≡ length l
  unfolding put_from
  length-put from zero l = refl
  length-put from (suc n) l =
      whether (eqb (get_or bytes (from + n) 0) 1)
      (λ t. ap length (if-true (eqb (get_or bytes (from + n) 0) 1) (set (put_from d bytes from n l) (place_of d (from + n)) 2) (put_from d bytes from n l) t) ∙ length-set (put_from d bytes from n l) (place_of d (from + n)) 2 ∙ length-put from n l)
      (λ t. ap length (if-false (eqb (get_or bytes (from + n) 0) 1) (set (put_from d bytes from n l) (place_of d (from + n)) 2) (put_from d bytes from n l) t) ∙ length-put from n l)

  -- WHAT STANDS WHERE: an entry that is no detector's of those bytes is as it was
  put_other : (n : ℕ) (l : List ℕ) (x : ℕ) → ((j : ℕ) → j < n → x ≡ place_of d j → ⊥) → get_or (put_from d bytes 0 n l) x 0 ≡ get_or l x 0
  unfolding put_from
  put_other zero l x o = refl
  put_other (suc n) l x o =
      let m = put_from d bytes 0 n l in
      let b = eqb (get_or bytes (0 + n) 0) 1 in
      let s : 0 + n ≡ n = omega arith in
      whether b
      (λ t.
      ap (λ (k : List ℕ). get_or k x 0) (if-true b (set m (place_of d (0 + n)) 2) m t)
      ∙ get_or-set_other m (place_of d (0 + n)) x 2 0 (λ (e : x ≡ place_of d (0 + n)). o n (omega arith) (e ∙ ap (place_of d) s))
      ∙ put_other n l x (λ j h. o j (omega arith)))
      (λ t. ap (λ (k : List ℕ). get_or k x 0) (if-false b (set m (place_of d (0 + n)) 2) m t) ∙ put_other n l x (λ j h. o j (omega arith)))

module _ (d : ℕ) (d2 : 2 ≤ d) where
  column : (j : ℕ) → j % (d - 1) < d - 1
  column j = let w : 0 < d - 1 = omega arith in mod-lt j w

  -- a place in its row
  place-row : (j q c : ℕ) → q * (d + 1) + c ≡ j / (d - 1) * (d + 1) + (j % (d - 1) + 1) → c < d + 1 → (q ≡ j / (d - 1)) × (c ≡ j % (d - 1) + 1)
  place-row j q c e l =
      let m = column j in
      let low : j % (d - 1) + 1 < d + 1 = omega arith in (
        sym (quotient (d + 1) q c l) ∙ ap (λ (x : ℕ). x / (d + 1)) e ∙ quotient (d + 1) (j / (d - 1)) (j % (d - 1) + 1) low,
        sym (rest (d + 1) q c l) ∙ ap (λ (x : ℕ). x % (d + 1)) e ∙ rest (d + 1) (j / (d - 1)) (j % (d - 1) + 1) low,
      )

  -- two bytes' detectors stand apart
  place-apart : (a b : ℕ) → place_of d a ≡ place_of d b → a ≡ b
  place-apart a b e =
      let m = column a in
      let p = place-row b (a / (d - 1)) (a % (d - 1) + 1) (omega arith) (omega arith) in
      let c : a % (d - 1) ≡ b % (d - 1) = omega (arith, p.1) in
      sym (div-add-mod' a (d - 1)) ∙ ap (λ (x : ℕ). x * (d - 1) + a % (d - 1)) p.0 ∙ ap (λ (x : ℕ). b / (d - 1) * (d - 1) + x) c ∙ div-add-mod' b (d - 1)

  -- of a row and a column
  place_at_lem : (r c : ℕ) → 1 ≤ c → c < d → place_of d (r * (d - 1) + (c - 1)) ≡ 512 + (r * (d + 1) + c)
  place_at_lem r c lo hi =
      let l : c - 1 < d - 1 = omega arith in
      let q = quotient (d - 1) r (c - 1) l in
      let m = rest (d - 1) r (c - 1) l in
      ap (λ (x : ℕ). 513 + (x * (d + 1) + (r * (d - 1) + (c - 1)) % (d - 1))) q ∙ ap (λ (x : ℕ). 513 + (r * (d + 1) + x)) m ∙ omega arith

  module _ (bytes : List ℕ) where
    -- a detector that was clear
    put-here : (n : ℕ) (l : List ℕ) (j : ℕ) → j < n → place_of d j < length l → get_or l (place_of d j) 0 ≡ 0 → get_or (put_from d bytes 0 n l) (place_of d j) 0 ≡ node_code false (eqb (get_or bytes j 0) 1) false 0
    unfolding put_from
    put-here zero l j h low clear = absurd (omega arith)
    put-here (suc n) l j h low clear =
        let m = put_from d bytes 0 n l in
        let b = eqb (get_or bytes (0 + n) 0) 1 in
        let s : 0 + n ≡ n = omega arith in
        ⊎_elim
        (λ y.
        whether b
        (λ t.
        ap (λ (k : List ℕ). get_or k (place_of d j) 0) (if-true b (set m (place_of d (0 + n)) 2) m t)
        ∙ get_or-set_other m (place_of d (0 + n)) (place_of d j) 2 0 (λ (e : place_of d j ≡ place_of d (0 + n)). let k = place-apart j (0 + n) e in omega arith)
        ∙ put-here n l j y low clear)
        (λ t. ap (λ (k : List ℕ). get_or k (place_of d j) 0) (if-false b (set m (place_of d (0 + n)) 2) m t) ∙ put-here n l j y low clear))
        (λ y.
        let e : j ≡ 0 + n = omega arith in
        subst (λ (k : ℕ). get_or (put_one d (0 + n) (get_or bytes (0 + n) 0) m) (place_of d k) 0 ≡ node_code false (eqb (get_or bytes k 0) 1) false 0) (sym e)
        (whether b
        (λ t.
        ap (λ (k : List ℕ). get_or k (place_of d (0 + n)) 0) (if-true b (set m (place_of d (0 + n)) 2) m t)
        ∙ get_or-set_same m (place_of d (0 + n)) 2 0 (let z = length-put d bytes 0 n l in let w = subst (λ (k : ℕ). place_of d k < length l) e low in omega (arith, z, w))
        ∙ rw t)
        (λ t.
        ap (λ (k : List ℕ). get_or k (place_of d (0 + n)) 0) (if-false b (set m (place_of d (0 + n)) 2) m t)
        ∙ put_other d bytes n l (place_of d (0 + n)) (λ i g (u : place_of d (0 + n) ≡ place_of d i). let k = place-apart (0 + n) i u in omega arith)
        ∙ subst (λ (k : ℕ). get_or l (place_of d k) 0 ≡ 0) e clear
        ∙ rw t)))
        (order j n)

-- THE SHEET, received
module _ (h d : ℕ) (x : Ranged h d) (bytes nodes : List ℕ) where
  row_of : (j : ℕ) → j < detectors_of h d → j / (d - 1) < h
  row_of j l = let d2 = x.d2 in let w : 0 < d - 1 = omega arith in (div-lt_iff_lt-mul w).1 l

  within : (j : ℕ) → j < detectors_of h d → place_of d j < 512 + h * (d + 1)
  within j l = let m = column d x.d2 j in let f = row_fits (j / (d - 1)) h (d + 1) (row_of j l) in omega arith

  pub place-low : (j : ℕ) → j < detectors_of h d → place_of d j < 4608
  place-low j l = let m = column d x.d2 j in let f = row_low h d (j / (d - 1)) x (row_of j l) in omega arith

  module _ (size : length nodes ≡ plane) (clear : (i : ℕ) → i < h * (d + 1) → get_or nodes (512 + i) 0 ≡ 0) where
    abbrev all : List ℕ
    all = put_from d bytes 0 (detectors_of h d) nodes

    detector : (r c : ℕ) → r < h → 1 ≤ c → c < d → get_or all (512 + (r * (d + 1) + c)) 0 ≡ node_code false (eqb (get_or bytes (r * (d - 1) + (c - 1)) 0) 1) false 0
    detector r c l lo hi =
        let j = r * (d - 1) + (c - 1) in
        let e = place_at_lem d x.d2 r c lo hi in
        let f = row_fits r h (d - 1) l in
        let g = row_fits r h (d + 1) l in
        let low : j < detectors_of h d = omega arith in
        ap (λ (k : ℕ). get_or all k 0) (sym e)
        ∙ put-here d x.d2 bytes (detectors_of h d) nodes j low (let y = place-low j low in omega arith) (ap (λ (k : ℕ). get_or nodes k 0) e ∙ clear (r * (d + 1) + c) (omega arith))

    pub received : Received h d bytes nodes all
    received =
        record {
          long = length-put d bytes 0 (detectors_of h d) nodes;
          detectors = detector;
          sides = λ r c l b n. put_other d bytes (detectors_of h d) nodes (512 + (r * (d + 1) + c))
              (λ j g (e : 512 + (r * (d + 1) + c) ≡ place_of d j). let m = column d x.d2 j in let p = (place-row d x.d2 j r c (omega arith) (omega arith)).1 in n (omega (arith, p)) (omega (arith, p)));
          before = λ y l. put_other d bytes (detectors_of h d) nodes y (λ j g (e : y ≡ place_of d j). omega arith);
          behind = λ y l. put_other d bytes (detectors_of h d) nodes y (λ j g (e : y ≡ place_of d j). let w = within j g in omega arith);
        }
