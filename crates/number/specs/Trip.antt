-- A number once written is read back, and one that is read is written so: there and back, byte for byte. Assumes nothing.
use Rattle.std.specs.Prelude.{ℕ, zero, suc, ◌+◌, ◌-◌, ◌*◌, ◌/◌, ◌%◌, ◌^◌, ◌≤◌, ◌<◌, ◌≡◌, refl, Bool, true, false, ◌&&◌, List, ◌∷◌, ◌++◌, ltb, leb, eqb, length, drop, get_or}
use Rattle.std.proofs.Math.Nat.{mod-add-div}
use Rattle.std.proofs.Common.{pos_of_ne-zero, arith, sym, ◌∙◌, ap, ap₂, lt-ltb, ne_eqb, ltb-true, ltb-false, leb-true, leb-false}
use Rattle.std.proofs.lemmas.Bool.{eqb-false}
use Rattle.refusal.specs.Answer.{done, refused, refused_at}
use Rattle.refusal.specs.Done.{never}
use Rattle.refusal.specs.Ends.{NoEnd, no-end-test}
use Rattle.refusal.specs.Bytes.{Bytes, Next, next-is, next_of, part-inside}
use Rattle.number.specs.Number.{written, group_at, last_group, number_at, largest, most}
use Rattle.number.specs.Laws.{written_one, written-more, length-written, group-last, group-more, group-cut, group-none, number_in, number_past, if_small, last-nothing, last-large, last-value}

-- a last group that is the only one or is not 0
adds-nothing : (weight x : ℕ) → (1 < weight → 0 < x) → (ltb 1 weight && eqb x 0) ≡ false
adds-nothing weight x h = go (ltb 1 weight) refl
  where
    go : (b : Bool) → ltb 1 weight ≡ b → (b && eqb x 0) ≡ false
    go true e = let p : 0 < x = h (ltb-true 1 weight e) in ne_eqb x 0 (λ q. omega arith)
    go false e = refl

-- a number of several groups counts as its first group and the others do
count : (weight x m : ℕ) → weight * (x + 128 * m) ≡ weight * x + weight * 128 * m
count weight x m = omega arith

parts : (weight m : ℕ) → weight * m ≡ weight * (m % 128) + weight * 128 * (m / 128)
parts weight m = ap (λ (i : ℕ). weight * i) (sym (mod-add-div m 128)) ∙ count weight (m % 128) (m / 128)

-- WRITTEN, THEN READ

-- what reading a written number gives
abbrev Reads : List ℕ → ℕ → ℕ → ℕ → ℕ → ℕ → ℕ → Type 0
Reads s first left weight sum at m = group_at s first left weight sum at ≡ done (sum + weight * m) (at + length (written m))

module _ (s : List ℕ) (first left weight sum m at : ℕ) (rest : List ℕ) (e : drop at s ≡ written m ++ rest) (l : 0 < left) where
  read-last : m < 128 → (1 < weight → 0 < m) → sum + weight * m ≤ largest → Reads s first left weight sum at m
  read-last h p small =
      let n : Next s at m rest = next-is s at m rest (e ∙ ap (λ (r : List ℕ). r ++ rest) (written_one m h)) in
      group-last s first left weight sum at l n.inside (omega arith)
      ∙ ap (λ (x : ℕ). last_group first weight sum x (at + 1)) n.first
      ∙ last-value first weight sum m (at + 1) (adds-nothing weight m p) small
      ∙ ap (λ (r : List ℕ). done (sum + weight * m) (at + length r)) (sym (written_one m h))

  read_more : 128 ≤ m
      → (drop (at + 1) s ≡ written (m / 128) ++ rest → Reads s first (left - 1) (weight * 128) (sum + weight * (m % 128)) (at + 1) (m / 128))
      → Reads s first left weight sum at m
  read_more h others =
      let n : Next s at (m % 128 + 128) (written (m / 128) ++ rest) = next-is s at _ _ (e ∙ ap (λ (r : List ℕ). r ++ rest) (written-more m h)) in
      let x : get_or s at 0 - 128 ≡ m % 128 = omega arith in
      let value : sum + weight * (m % 128) + weight * 128 * (m / 128) ≡ sum + weight * m = omega (arith, parts weight m) in
      let behind : at + 1 + length (written (m / 128)) ≡ at + length (written m) = omega (arith, ap length (written-more m h)) in
      group-more s first left weight sum at l n.inside (omega arith)
      ∙ ap (λ (i : ℕ). group_at s first (left - 1) (weight * 128) (sum + weight * i) (at + 1)) x
      ∙ others n.others
      ∙ ap₂ done value behind

-- a number of at most k + 1 groups, where more than k may come
groups-read : (s : List ℕ) (first k left weight sum m at : ℕ) (rest : List ℕ) → m < 128 ^ suc k → k < left → (1 < weight → 0 < m) → sum + weight * m ≤ largest
    → drop at s ≡ written m ++ rest → Reads s first left weight sum at m
groups-read s first zero left weight sum m at rest h l p small e = read-last s first left weight sum m at rest e (omega arith) (omega arith) p small
groups-read s first (suc k) left weight sum m at rest h l p small e = go (ltb m 128) refl
    (λ q. groups-read s first k (left - 1) (weight * 128) (sum + weight * (m % 128)) (m / 128) (at + 1) rest (omega arith) (omega arith) (λ i. omega arith) (omega (arith, parts weight m)))
  where
    go : (b : Bool) → ltb m 128 ≡ b
        → (128 ≤ m → drop (at + 1) s ≡ written (m / 128) ++ rest → Reads s first (left - 1) (weight * 128) (sum + weight * (m % 128)) (at + 1) (m / 128))
        → Reads s first left weight sum at m
    go true b others = read-last s first left weight sum m at rest e (omega arith) (ltb-true m 128 b) p small
    go false b others = let q = ltb-false m 128 b in read_more s first left weight sum m at rest e (omega arith) q (others q)

pub number-reads : (s : List ℕ) (at n : ℕ) (rest : List ℕ) → drop at s ≡ written n ++ rest → n ≤ largest
    → number_at s at ≡ done n (at + length (written n))
number-reads s at n rest e h =
    let inside = part-inside s at (written n) rest (length-written n).0 e in
    let value : 0 + 1 * n ≡ n = omega arith in
    number_in s at (omega arith)
    ∙ groups-read s at 4 most 1 0 n at rest (omega arith) (omega arith) (λ i. omega arith) (omega arith) e
    ∙ ap (λ (v : ℕ). done v (at + length (written n))) value

-- READ, THEN WRITTEN

-- what was read stands in the bytes in its shortest form: where a group came before, and only there, is 1 < weight
record Stands (s : List ℕ) (at weight sum n next : ℕ) : Type 0 where
  number : ℕ
  value : n ≡ sum + weight * number
  bytes : drop at s ≡ written number ++ drop next s
  small : n ≤ largest
  forward : next ≡ at + length (written number)
  inside : next ≤ length s
  short : 1 < weight → 0 < number

-- a number by its first group and the others
written-cons : (x m : ℕ) → 128 ≤ x → x < 256 → 0 < m → written (x - 128 + 128 * m) ≡ x ∷ written m
written-cons x m h b p =
    let low : (x - 128 + 128 * m) % 128 + 128 ≡ x = omega arith in
    let high : (x - 128 + 128 * m) / 128 ≡ m = omega arith in
    written-more (x - 128 + 128 * m) (omega arith) ∙ ap₂ (λ (y i : ℕ). y ∷ written i) low high

module _ (s : List ℕ) (first weight sum at n next : ℕ) (inside : at < length s) where
  last-stands : get_or s at 0 < 128 → last_group first weight sum (get_or s at 0) (at + 1) ≡ done n next → Stands s at weight sum n next
  last-stands h e = go (ltb 1 weight && eqb (get_or s at 0) 0) (leb (sum + weight * get_or s at 0) largest) refl refl
    where
      -- a last group that stands alone, or is not 0
      adds : (ltb 1 weight && eqb (get_or s at 0) 0) ≡ false → 1 < weight → 0 < get_or s at 0
      adds p l =
          let q : eqb (get_or s at 0) 0 ≡ false = sym (ap (λ (b : Bool). b && eqb (get_or s at 0) 0) (lt-ltb 1 weight l)) ∙ p in
          pos_of_ne-zero (eqb-false (get_or s at 0) 0 q)

      go : (empty small : Bool) → (ltb 1 weight && eqb (get_or s at 0) 0) ≡ empty → leb (sum + weight * get_or s at 0) largest ≡ small → Stands s at weight sum n next
      go true small p q = absurd (never (sym (last-nothing first weight sum (get_or s at 0) (at + 1) p) ∙ e) refl)
      go false false p q = absurd (never (sym (last-large first weight sum (get_or s at 0) (at + 1) p (leb-false _ _ q)) ∙ e) refl)
      go false true p q =
          let l = leb-true (sum + weight * get_or s at 0) largest q in
          let d : done (sum + weight * get_or s at 0) (at + 1) ≡ done n next = sym (last-value first weight sum (get_or s at 0) (at + 1) p l) ∙ e in
          let v : sum + weight * get_or s at 0 ≡ n = cc in
          let o : at + 1 ≡ next = cc in
          let one = written_one (get_or s at 0) h in
          record {
            number = get_or s at 0;
            value = sym v;
            bytes = next_of s at inside ∙ rw (one, o) refl;
            small = omega arith;
            forward = rw one (omega arith);
            inside = omega arith;
            short = adds p;
          }

  more-stands : 128 ≤ get_or s at 0 → get_or s at 0 < 256 → 0 < weight → Stands s (at + 1) (weight * 128) (sum + weight * (get_or s at 0 - 128)) n next
      → Stands s at weight sum n next
  more-stands h b w r =
      let p : 0 < r.number = r.short (omega arith) in
      let form = written-cons (get_or s at 0) r.number h b p in
      record {
        number = get_or s at 0 - 128 + 128 * r.number;
        value = omega (arith, r.value, count weight (get_or s at 0 - 128) r.number);
        bytes = next_of s at inside ∙ rw (form, r.bytes) refl;
        small = r.small;
        forward = rw form (omega arith);
        inside = r.inside;
        short = λ l. omega arith;
      }

groups-stand : (left : ℕ) (s : List ℕ) (first weight sum at n next : ℕ) → Bytes s → 0 < weight → group_at s first left weight sum at ≡ done n next
    → Stands s at weight sum n next
groups-stand zero s first weight sum at n next b w e = absurd (never (sym (group-none s first weight sum at) ∙ e) refl)
groups-stand (suc left) s first weight sum at n next b w e =
    go (ltb at (length s)) refl (ltb (get_or s at 0) 128) refl
    (groups-stand left s first (weight * 128) (sum + weight * (get_or s at 0 - 128)) (at + 1) n next b (omega arith))
  where
    go : (is_left : Bool) → ltb at (length s) ≡ is_left → (is_last : Bool) → ltb (get_or s at 0) 128 ≡ is_last
        → (group_at s first left (weight * 128) (sum + weight * (get_or s at 0 - 128)) (at + 1) ≡ done n next
        → Stands s (at + 1) (weight * 128) (sum + weight * (get_or s at 0 - 128)) n next)
        → Stands s at weight sum n next
    go false p is_last q others = absurd (never (sym (group-cut s first (suc left) weight sum at (omega arith) (ltb-false at (length s) p)) ∙ e) refl)
    go true p true q others =
        let i = ltb-true at (length s) p in
        let x = ltb-true (get_or s at 0) 128 q in
        last-stands s first weight sum at n next i x (sym (group-last s first (suc left) weight sum at (omega arith) i x) ∙ e)
    go true p false q others =
        let i = ltb-true at (length s) p in
        let x = ltb-false (get_or s at 0) 128 q in
        let l : suc left - 1 ≡ left = omega arith in
        more-stands s first weight sum at n next i x (b at i) w
        (others (rw l at (sym (group-more s first (suc left) weight sum at (omega arith) i x) ∙ e)))

-- what a number that is read tells of the bytes
pub record NumberWrites (s : List ℕ) (at n next : ℕ) : Type 0 where
  pub bytes : drop at s ≡ written n ++ drop next s
  pub small : n ≤ largest
  pub forward : next ≡ at + length (written n)
  pub inside : next ≤ length s

pub number-writes : (s : List ℕ) (at n next : ℕ) → Bytes s → number_at s at ≡ done n next → NumberWrites s at n next
number-writes s at n next b e = go (leb at (length s)) refl
  where
    go : (is_in : Bool) → leb at (length s) ≡ is_in → NumberWrites s at n next
    go false p = absurd (never (sym (number_past s at (leb-false at (length s) p)) ∙ e) refl)
    go true p =
        let r : Stands s at 1 0 n next = groups-stand most s at 1 0 at n next b (omega arith) (sym (number_in s at (leb-true at (length s) p)) ∙ e) in
        let m : r.number ≡ n = omega (arith, r.value) in
        record {
          bytes = rw m at r.bytes;
          small = r.small;
          forward = rw m at r.forward;
          inside = r.inside;
        }

-- a number's reader answers no end
pub number-no-end : (s : List ℕ) (at : ℕ) → NoEnd (number_at s at)
unfolding number_at group_at
number-no-end s at = no-end-test (leb at (length s)) (group_at s at most 1 0 at) (refused 10) (group most 1 0 at) tt
  where
    last : (weight sum x next : ℕ) → NoEnd (last_group at weight sum x next)
    last weight sum x next =
        no-end-test (ltb 1 weight && eqb x 0) (refused_at 8 at) (if_small at (sum + weight * x) next) tt
        (no-end-test (leb (sum + weight * x) largest) (done (sum + weight * x) next) (refused_at 8 at) tt tt)

    group : (left weight sum from : ℕ) → NoEnd (group_at s at left weight sum from)
    group zero weight sum from = tt
    group (suc left) weight sum from =
        no-end-test (ltb from (length s)) _ (refused_at 7 at)
        (no-end-test (ltb (get_or s from 0) 128) (last_group at weight sum (get_or s from 0) (from + 1)) _
        (last weight sum (get_or s from 0) (from + 1))
        (group left (weight * 128) (sum + weight * (get_or s from 0 - 128)) (from + 1)))
        tt
