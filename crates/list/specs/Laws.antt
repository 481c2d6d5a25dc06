-- Laws of written and read lists, for those who use the definitions. Assumes nothing.
use Rattle.std.specs.Prelude.{ℕ, zero, suc, ◌+◌, ◌-◌, ◌*◌, ◌≤◌, ◌<◌, ◌≡◌, Bool, true, false, List, [], ◌∷◌, ◌++◌, ltb, leb, eqb, length, set, replicate}
use Rattle.std.proofs.Common.{arith, sym, ◌∙◌, ap, length-append, length-set}
use Rattle.std.proofs.Math.Path.{refl}
use borrow.Author.Tests.{lt-ltb, le-ltb, le-leb, lt-leb, eq-eqb, ne_eqb, eqb-true, ltb-true, ltb-false}
use Rattle.refusal.specs.Answer.{Answer, done, ended, refused, refused_at, turned, and_then, is_done, without_value, value_or, itself}
use Rattle.refusal.specs.Laws.{not_done, turned-passed, turned-not, value_not}
use Rattle.refusal.specs.Writing.{buffered}
use Rattle.refusal.specs.declared.Refusal.{Refusal}
use Rattle.refusal.specs.Done.{went, took, goes_on_lem, passes, fails}
use Rattle.number.specs.Number.{written, number_at}
use Rattle.number.specs.Laws.{length-written}
use Rattle.list.specs.Sheet.{ones, skips, listed, entries_at, list_at, count_at, place_at, are_bits, read_into}

-- WRITTEN

pub ones-set : (x : ℕ) (xs : List ℕ) → x ≡ 1 → ones (x ∷ xs) ≡ ones xs + 1
unfolding ones
ones-set x xs e = rw (eq-eqb x 1 e, ones) refl

pub ones-unset : (x : ℕ) (xs : List ℕ) → (x ≡ 1 → ⊥) → ones (x ∷ xs) ≡ ones xs
unfolding ones
ones-unset x xs e = rw (ne_eqb x 1 e, ones) refl

pub skips-set : (k x : ℕ) (xs : List ℕ) → x ≡ 1 → skips k (x ∷ xs) ≡ written k ++ skips 0 xs
unfolding skips
skips-set k x xs e = rw (eq-eqb x 1 e, skips) refl

pub skips-unset : (k x : ℕ) (xs : List ℕ) → (x ≡ 1 → ⊥) → skips k (x ∷ xs) ≡ skips (k + 1) xs
unfolding skips
skips-unset k x xs e = rw (ne_eqb x 1 e, skips) refl

pub ones-nil : ones [] ≡ 0
unfolding ones
ones-nil = refl

pub skips-nil : (k : ℕ) → skips k [] ≡ []
unfolding skips
skips-nil k = refl

pub listed-is : (xs : List ℕ) → listed xs ≡ written (ones xs) ++ skips 0 xs
unfolding listed
listed-is xs = refl

by-entry : {P : Type 0} (x : ℕ) → (x ≡ 1 → P) → ((x ≡ 1 → ⊥) → P) → P
by-entry {P} x yes' no' = go (eqb x 1) refl
  where
    go : (b : Bool) → eqb x 1 ≡ b → P
    go true e = yes' (eqb-true x 1 e)
    go false e = no' (borrow.Author.Tests.eqb-false x 1 e)

pub ones-le : (xs : List ℕ) → ones xs ≤ length xs
ones-le [] = rw ones-nil (omega arith)
ones-le (x ∷ xs) = let r = ones-le xs in by-entry x (λ e. rw (ones-set x xs e) (omega arith)) (λ e. rw (ones-unset x xs e) (omega arith))

-- the skips take no more bytes than there are entries
pub length-skips : (k : ℕ) (xs : List ℕ) → length (skips k xs) ≤ k + length xs
length-skips k [] = rw (skips-nil k) (omega arith)
length-skips k (x ∷ xs) =
    let r = length-skips 0 xs in
    let q = length-skips (k + 1) xs in
    by-entry x (λ e. rw (skips-set k x xs e) (omega (arith, length-append (written k) (skips 0 xs), (length-written k).1)))
    (λ e. rw (skips-unset k x xs e) (omega arith))

pub length-listed : (xs : List ℕ) → (0 < length (listed xs)) × (length (listed xs) ≤ 2 * length xs + 1)
length-listed xs =
    rw (listed-is xs)
    (omega (arith, length-append (written (ones xs)) (skips 0 xs), length-written (ones xs), ones-le xs, length-skips 0 xs))

pub bits-nil : are_bits [] ≡ true
unfolding are_bits
bits-nil = refl

pub bits-one : (x : ℕ) (xs : List ℕ) → x ≤ 1 → are_bits (x ∷ xs) ≡ are_bits xs
unfolding are_bits
bits-one x xs h = rw (le-leb x 1 h, are_bits) refl

pub bits-not : (x : ℕ) (xs : List ℕ) → 1 < x → are_bits (x ∷ xs) ≡ false
unfolding are_bits
bits-not x xs h = rw (lt-leb x 1 h, are_bits) refl

-- READ

-- what is done with a skip, and with the count
abbrev pub on_skip : List ℕ → ℕ → ℕ → ℕ → List ℕ → ℕ → ℕ → Answer (List ℕ)
on_skip s n from at entries k next =
    elim (ltb (from + k) (length entries)) [ true ↦ entries_at s n (from + k + 1) next (set entries (from + k) 1) | false ↦ refused_at 9 at ]

abbrev pub on_count : List ℕ → ℕ → ℕ → ℕ → ℕ → Answer (List ℕ)
on_count s size at n next = elim (leb n size) [ true ↦ entries_at s n 0 next (replicate size 0) | false ↦ refused_at 9 at ]

module _ (s : List ℕ) (n from at : ℕ) (entries : List ℕ) where
  pub entries-steps : entries_at s (suc n) from at entries ≡ and_then (number_at s at) (on_skip s n from at entries)
  unfolding entries_at
  entries-steps = refl

  module _ (k next : ℕ) (d : number_at s at ≡ done k next) where
    pub entries-step : from + k < length entries → entries_at s (suc n) from at entries ≡ entries_at s n (from + k + 1) next (set entries (from + k) 1)
    entries-step h = entries-steps ∙ goes_on_lem (on_skip s n from at entries) d ∙ passes _ _ (lt-ltb (from + k) (length entries) h)

    pub entries_over : length entries ≤ from + k → entries_at s (suc n) from at entries ≡ refused_at 9 at
    entries_over h = entries-steps ∙ goes_on_lem (on_skip s n from at entries) d ∙ fails _ _ (le-ltb (from + k) (length entries) h)

  pub entries-stop : is_done (number_at s at) ≡ false → without_value (entries_at s (suc n) from at entries) ≡ without_value (number_at s at)
  entries-stop e = ap (λ (a : Answer (List ℕ)). without_value a) entries-steps ∙ not_done (number_at s at) (on_skip s n from at entries) e

-- the same where some are left
module _ (s : List ℕ) (left from at : ℕ) (entries : List ℕ) (l : 0 < left) where
  as-suc : entries_at s left from at entries ≡ entries_at s (suc (left - 1)) from at entries
  as-suc = let e : left ≡ suc (left - 1) = omega arith in ap (λ (n : ℕ). entries_at s n from at entries) e

  pub entries-turned : is_done (number_at s at) ≡ false → without_value (entries_at s left from at entries) ≡ without_value (number_at s at)
  entries-turned e = ap (λ (a : Answer (List ℕ)). without_value a) as-suc ∙ entries-stop s (left - 1) from at entries e

  module _ (k next : ℕ) (d : number_at s at ≡ done k next) where
    pub entries-more : from + k < length entries → entries_at s left from at entries ≡ entries_at s (left - 1) (from + k + 1) next (set entries (from + k) 1)
    entries-more h = as-suc ∙ entries-step s (left - 1) from at entries k next d h

    pub entries-past : length entries ≤ from + k → entries_at s left from at entries ≡ refused_at 9 at
    entries-past h = as-suc ∙ entries_over s (left - 1) from at entries k next d h

pub entries_none : (s : List ℕ) (from at : ℕ) (entries : List ℕ) → entries_at s 0 from at entries ≡ done entries at
unfolding entries_at
entries_none s from at entries = refl

module _ (s : List ℕ) (size at : ℕ) where
  pub list_steps : list_at s size at ≡ and_then (number_at s at) (on_count s size at)
  unfolding list_at
  list_steps = refl

  pub list-turned : is_done (number_at s at) ≡ false → without_value (list_at s size at) ≡ without_value (number_at s at)
  list-turned e = ap (λ (a : Answer (List ℕ)). without_value a) list_steps ∙ not_done (number_at s at) (on_count s size at) e

  module _ (n next : ℕ) (d : number_at s at ≡ done n next) where
    pub list_counted : n ≤ size → list_at s size at ≡ entries_at s n 0 next (replicate size 0)
    list_counted h = list_steps ∙ goes_on_lem (on_count s size at) d ∙ passes _ _ (le-leb n size h)

    pub list-past : size < n → list_at s size at ≡ refused_at 9 at
    list-past h = list_steps ∙ goes_on_lem (on_count s size at) d ∙ fails _ _ (lt-leb n size h)

-- how a list's reading ends depends on how many entries there are, and not on what they hold
pub entries-alike : (s : List ℕ) (n from at : ℕ) (xs ys : List ℕ) → length xs ≡ length ys
    → without_value (entries_at s n from at xs) ≡ without_value (entries_at s n from at ys)
entries-alike s zero from at xs ys e = rw (entries_none s from at xs, entries_none s from at ys) refl
entries-alike s (suc n) from at xs ys e = go (number_at s at) refl (λ k next. entries-alike s n (from + k + 1) next (set xs (from + k) 1) (set ys (from + k) 1) (length-set xs (from + k) 1 ∙ e ∙ sym (length-set ys (from + k) 1)))
  where
    stops : is_done (number_at s at) ≡ false → without_value (entries_at s (suc n) from at xs) ≡ without_value (entries_at s (suc n) from at ys)
    stops b = entries-stop s n from at xs b ∙ sym (entries-stop s n from at ys b)

    inside : (k next : ℕ) → number_at s at ≡ done k next → (b : Bool) → ltb (from + k) (length xs) ≡ b
        → without_value (entries_at s n (from + k + 1) next (set xs (from + k) 1)) ≡ without_value (entries_at s n (from + k + 1) next (set ys (from + k) 1))
        → without_value (entries_at s (suc n) from at xs) ≡ without_value (entries_at s (suc n) from at ys)
    inside k next d true t r =
        let h : from + k < length xs = ltb-true _ _ t in
        ap (λ (a : Answer (List ℕ)). without_value a) (entries-step s n from at xs k next d h)
        ∙ r
        ∙ sym (ap (λ (a : Answer (List ℕ)). without_value a) (entries-step s n from at ys k next d (omega (arith, e))))
    inside k next d false t r =
        let h : length xs ≤ from + k = ltb-false _ _ t in
        ap (λ (a : Answer (List ℕ)). without_value a) (entries_over s n from at xs k next d h)
        ∙ sym (ap (λ (a : Answer (List ℕ)). without_value a) (entries_over s n from at ys k next d (omega (arith, e))))

    go : (a : Answer ℕ) → number_at s at ≡ a
        → ((k next : ℕ) → without_value (entries_at s n (from + k + 1) next (set xs (from + k) 1)) ≡ without_value (entries_at s n (from + k + 1) next (set ys (from + k) 1)))
        → without_value (entries_at s (suc n) from at xs) ≡ without_value (entries_at s (suc n) from at ys)
    go (done k next) d r = inside k next d (ltb (from + k) (length xs)) refl (r k next)
    go ended d r = stops (ap (λ (a : Answer ℕ). is_done a) d)
    go (refused m) d r = stops (ap (λ (a : Answer ℕ). is_done a) d)
    go (refused_at m o) d r = stops (ap (λ (a : Answer ℕ). is_done a) d)

-- BY STEPS, of which each reads a number and tests it

-- a number that is tested, and what is done with it
bounded : {B : Type 0} (a : Answer ℕ) (test : ℕ → Bool) (value : ℕ → ℕ) (at : ℕ) (g : ℕ → ℕ → Answer B)
    → and_then a (λ k next. elim (test k) [ true ↦ g (value k) next | false ↦ refused_at 9 at ])
    ≡ and_then (and_then a (λ k next. elim (test k) [ true ↦ done (value k) next | false ↦ refused_at 9 at ])) g
bounded {B} (done k next) test value at g = go (test k)
  where
    go : (t : Bool) → elim t [ true ↦ g (value k) next | false ↦ refused_at 9 at ] ≡ and_then (elim t [ true ↦ done (value k) next | false ↦ refused_at 9 at ]) g
    go true = refl
    go false = refl
bounded ended test value at g = refl
bounded (refused n) test value at g = refl
bounded (refused_at n o) test value at g = refl

abbrev pub on_place : List ℕ → ℕ → List ℕ → ℕ → ℕ → Answer (List ℕ)
on_place s n entries place next = entries_at s n (place + 1) next (set entries place 1)

abbrev pub on_size : List ℕ → ℕ → ℕ → ℕ → Answer (List ℕ)
on_size s size n next = entries_at s n 0 next (replicate size 0)

module _ (s : List ℕ) where
  pub entries-placed : (n from at : ℕ) (entries : List ℕ) → entries_at s (suc n) from at entries ≡ and_then (place_at s (length entries) from at) (on_place s n entries)
  unfolding place_at
  entries-placed n from at entries =
      entries-steps s n from at entries
      ∙ bounded (number_at s at) (λ k. ltb (from + k) (length entries)) (λ k. from + k) at (on_place s n entries)

  pub list-sized : (size at : ℕ) → list_at s size at ≡ and_then (count_at s size at) (on_size s size)
  unfolding count_at
  list-sized size at = list_steps s size at ∙ bounded (number_at s at) (λ n. leb n size) (λ n. n) at (on_size s size)

  -- a place that is found is one
  pub place-inside : (size from at place next : ℕ) → place_at s size from at ≡ done place next → (from ≤ place) × (place < size)
  unfolding place_at
  place-inside size from at place next e =
      let g = went (number_at s at) (λ k next. elim (ltb (from + k) size) [ true ↦ done (from + k) next | false ↦ refused_at 9 at ]) place next e in
      let t = took (ltb (from + g.value) size) (done (from + g.value) g.next) (refused_at 9 at) place next refl g.after in
      let h : from + g.value < size = ltb-true _ _ t.0 in
      let p : from + g.value ≡ place = cc in
      omega (arith, h, p)

-- what is refused leaves the buffer as it is
pub refused-into : (f : Refusal) (whole : Answer (List ℕ)) (out : List ℕ) → whole ≡ turned f → buffered (turned f) out ≡ read_into whole out
refused-into f whole out e =
    sym (ap (λ (a : Answer (List ℕ)). read_into a out) e
    ∙ ap (λ (a : Answer (Unit {0})). buffered a (value_or (turned f) itself out)) (turned-passed (List ℕ) f)
    ∙ ap (λ (b : List ℕ). buffered (turned f) b) (value_not (turned f) itself out (turned-not (List ℕ) f)))
