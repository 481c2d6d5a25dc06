-- Laws of written and read numbers, for those who use the definitions. Assumes nothing.
use Prim.Native.Nat.{ℕ, zero, suc, ◌+◌, ◌-◌, ◌*◌, ◌/◌, ◌%◌, ◌^◌, ◌≤◌, ◌<◌}
use native.Mathlib.Omega.{arith}
use Rattle.std.specs.Prelude.{◌≡◌, refl, Bool, true, false, ◌&&◌, List, [], ◌∷◌, ltb, leb, eqb, length, get_or}
use Rattle.std.proofs.Common.{sym, ◌∙◌, pow-add, pow_mono, lt-ltb, le-ltb, le-leb, ltb-true, ltb-false}
use Rattle.std.proofs.Math.Path.{ap}
use Rattle.std.proofs.lemmas.Bool.{lt-leb}
use Rattle.refusal.specs.Answer.{Answer, done, refused, refused_at}
use Rattle.refusal.specs.Done.{passes, fails}
use Rattle.number.specs.Number.{groups, written, group_at, last_group, number_at, most, largest}

-- WRITTEN

-- groups enough are all the same
enough : (j k n : ℕ) → n ≤ j → n ≤ k → groups j n ≡ groups k n
unfolding groups
enough zero zero n p q = refl
enough zero (suc k) n p q = sym (rw (lt-ltb n 128 (omega arith), groups) refl)
enough (suc j) zero n p q = rw (lt-ltb n 128 (omega arith), groups) refl
enough (suc j) (suc k) n p q = go (ltb n 128) refl (λ l. enough j k (n / 128) (omega arith) (omega arith))
  where
    go : (b : Bool) → ltb n 128 ≡ b → (128 ≤ n → groups j (n / 128) ≡ groups k (n / 128)) → groups (suc j) n ≡ groups (suc k) n
    go true e rest = rw (e, groups) refl
    go false e rest = rw (e, groups) (ap (λ (r : List ℕ). (n % 128 + 128) ∷ r) (rest (ltb-false n 128 e)))

pub written_one : (n : ℕ) → n < 128 → written n ≡ n ∷ []
unfolding written
written_one zero h = refl
written_one (suc n) h = rw (lt-ltb (suc n) 128 h, groups) refl

pub written-more : (n : ℕ) → 128 ≤ n → written n ≡ (n % 128 + 128) ∷ written (n / 128)
unfolding written
written-more zero h = absurd (omega arith)
written-more (suc n) h =
    rw (le-ltb (suc n) 128 h, groups)
    (ap (λ (r : List ℕ). (suc n % 128 + 128) ∷ r) (enough n (suc n / 128) (suc n / 128) (omega arith) (omega arith)))

-- a number has at least one group, and at most one more than its value
pub length-written : (n : ℕ) → (0 < length (written n)) × (length (written n) ≤ n + 1)
length-written n = all n n (omega arith)
  where
    all : (k n : ℕ) → n ≤ k → (0 < length (written n)) × (length (written n) ≤ n + 1)
    all zero n h = rw (written_one n (omega arith)) (omega arith)
    all (suc k) n h = go (ltb n 128) refl (λ l. all k (n / 128) (omega arith))
      where
        go : (b : Bool) → ltb n 128 ≡ b → (128 ≤ n → (0 < length (written (n / 128))) × (length (written (n / 128)) ≤ n / 128 + 1))
            → (0 < length (written n)) × (length (written n) ≤ n + 1)
        go true e rest = rw (written_one n (ltb-true n 128 e)) (omega arith)
        go false e rest = let r = rest (ltb-false n 128 e) in let l = ltb-false n 128 e in rw (written-more n l) (omega arith)

-- READ

-- the last group, of so much value, where it adds something
abbrev pub if_small : ℕ → ℕ → ℕ → Answer ℕ
if_small first value next = elim (leb value largest) [ true ↦ done value next | false ↦ refused_at 8 first ]

module _ (first weight sum x next : ℕ) where
  pub last-nothing : (ltb 1 weight && eqb x 0) ≡ true → last_group first weight sum x next ≡ refused_at 8 first
  last-nothing e = passes (refused_at 8 first) (if_small first (sum + weight * x) next) e

  module _ (e : (ltb 1 weight && eqb x 0) ≡ false) where
    by_value : last_group first weight sum x next ≡ if_small first (sum + weight * x) next
    by_value = fails (refused_at 8 first) (if_small first (sum + weight * x) next) e

    pub last-large : largest < sum + weight * x → last_group first weight sum x next ≡ refused_at 8 first
    last-large h = by_value ∙ fails (done (sum + weight * x) next) (refused_at 8 first) (lt-leb (sum + weight * x) largest h)

    pub last-value : sum + weight * x ≤ largest → last_group first weight sum x next ≡ done (sum + weight * x) next
    last-value h = by_value ∙ passes (done (sum + weight * x) next) (refused_at 8 first) (le-leb (sum + weight * x) largest h)

-- a byte that is left: the last group, or one of several
abbrev if_last : List ℕ → ℕ → ℕ → ℕ → ℕ → ℕ → Answer ℕ
if_last s first left weight sum at =
    elim (ltb (get_or s at 0) 128) [
      | true ↦ last_group first weight sum (get_or s at 0) (at + 1)
      | false ↦ group_at s first left (weight * 128) (sum + weight * (get_or s at 0 - 128)) (at + 1)
    ]

module _ (s : List ℕ) (first left weight sum at : ℕ) (l : 0 < left) where
  by_tests : group_at s first left weight sum at ≡ elim (ltb at (length s)) [ true ↦ if_last s first (left - 1) weight sum at | false ↦ refused_at 7 first ]
  unfolding group_at
  by_tests = let e : left ≡ suc (left - 1) = omega arith in ap (λ (k : ℕ). group_at s first k weight sum at) e

  pub group-cut : length s ≤ at → group_at s first left weight sum at ≡ refused_at 7 first
  group-cut h = by_tests ∙ fails _ _ (le-ltb at (length s) h)

  pub group-last : at < length s → get_or s at 0 < 128 → group_at s first left weight sum at ≡ last_group first weight sum (get_or s at 0) (at + 1)
  group-last h k = by_tests ∙ passes _ _ (lt-ltb at (length s) h) ∙ passes _ _ (lt-ltb (get_or s at 0) 128 k)

  pub group-more : at < length s → 128 ≤ get_or s at 0
      → group_at s first left weight sum at ≡ group_at s first (left - 1) (weight * 128) (sum + weight * (get_or s at 0 - 128)) (at + 1)
  group-more h k = by_tests ∙ passes _ _ (lt-ltb at (length s) h) ∙ fails _ _ (le-ltb (get_or s at 0) 128 k)

pub group-none : (s : List ℕ) (first weight sum at : ℕ) → group_at s first 0 weight sum at ≡ refused_at 8 first
unfolding group_at
group-none s first weight sum at = refl

pub number_past : (s : List ℕ) (at : ℕ) → length s < at → number_at s at ≡ refused 10
unfolding number_at
number_past s at h = rw (lt-leb at (length s) h) refl

pub number_in : (s : List ℕ) (at : ℕ) → at ≤ length s → number_at s at ≡ group_at s at most 1 0 at
unfolding number_at
number_in s at h = rw (le-leb at (length s) h) refl

-- one group alone
pub number-one : (s : List ℕ) (at : ℕ) → at < length s → get_or s at 0 < 128 → number_at s at ≡ done (get_or s at 0) (at + 1)
number-one s at h k =
    let v : 0 + 1 * get_or s at 0 ≡ get_or s at 0 = omega arith in
    number_in s at (omega arith)
    ∙ group-last s at most 1 0 at (omega arith) h k
    ∙ last-value at 1 0 (get_or s at 0) (at + 1) refl (omega arith)
    ∙ ap (λ (n : ℕ). done n (at + 1)) v

-- what a one counts where so many groups may still come
abbrev pub weighs : ℕ → ℕ
weighs left = 2 ^ (7 * (most - left))

pub weighs-less : (left : ℕ) → 0 < left → weighs left ≤ 268435456
weighs-less left h = pow_mono {j = 28} (omega arith)

pub weighs-next : (left : ℕ) → 0 < left → left ≤ most → weighs left * 128 ≡ weighs (left - 1)
weighs-next left h k =
    let e : 7 * (most - (left - 1)) ≡ 7 * (most - left) + 7 = omega arith in
    sym (ap (λ (n : ℕ). 2 ^ n) e ∙ pow-add 2 (7 * (most - left)) 7)
