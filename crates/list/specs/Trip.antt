-- A sheet list once written is read back, and one that is read is written so: there and back, byte for byte. Assumes nothing.
use Prim.Native.Nat.{ℕ, zero, suc, ◌+◌, ◌-◌, ◌≤◌, ◌<◌}
use Rattle.std.proofs.Common.{add-zero, zero-add, add-one, sym, ◌∙◌, ap₂, subst₂, append_assoc, append-nil, length-append, ltb-true}
use native.Mathlib.Omega.{arith}
use Rattle.std.specs.Prelude.{◌≡◌, true, false, List, [], ◌∷◌, ◌++◌, ltb, leb, length, drop, set, replicate}
use Rattle.std.proofs.Math.Path.{refl, ap}
use Rattle.std.proofs.lemmas.List.{length-replicate, replicate-append-replicate, set_at}
use Rattle.std.proofs.Math.Seq.{append_snoc}
use Rattle.std.proofs.lemmas.Bool.{lt-leb}
use Rattle.refusal.specs.Answer.{done, refused_at}
use Rattle.refusal.specs.Done.{Went, went, took}
use Rattle.refusal.specs.Ends.{NoEnd, no-end-then, no-end-test}
use Rattle.refusal.specs.Bytes.{Bytes}
use Rattle.refusal.specs.Filling.{drop-part}
use Rattle.number.specs.Number.{written, number_at, largest}
use Rattle.number.specs.Laws.{length-written}
use Rattle.number.specs.Trip.{number-reads, NumberWrites, number-writes, number-no-end}
use Rattle.list.specs.Laws.{ones-le, on_skip, on_count, entries_none, entries-steps, entries-step, list_steps, list_counted}
use Rattle.list.specs.Sheet.{ones, skips, listed, entries_at, list_at, are_bits}

-- THE ENTRIES

-- a list of bits starts with 0 or 1, and the others are bits
data Bits : List ℕ → Type 0 where
  none : Bits []
  clear : {xs : List ℕ} → Bits xs → Bits (0 ∷ xs)
  one : {xs : List ℕ} → Bits xs → Bits (1 ∷ xs)

are-bits : (xs : List ℕ) → are_bits xs ≡ true → Bits xs
unfolding are_bits
are-bits [] e = none
are-bits (zero ∷ xs) e = clear (are-bits xs e)
are-bits (suc zero ∷ xs) e = one (are-bits xs e)
are-bits (suc (suc x) ∷ xs) e =
    let f : are_bits (suc (suc x) ∷ xs) ≡ false = rw (lt-leb (suc (suc x)) 1 (omega arith), are_bits) refl in
    let z : ◌≡◌ {A = ℕ} 0 1 = cc in
    absurd (omega arith)

-- WRITTEN, THEN READ

-- the entries before are read, with k of them clear since the last that is set, and the others are 0 so far
entries-read : (s : List ℕ) {ys : List ℕ} → Bits ys → (k from at : ℕ) (before rest : List ℕ) → length before ≡ from + k → length before + length ys ≤ largest
    → drop at s ≡ skips k ys ++ rest
    → entries_at s (ones ys) from at (before ++ replicate (length ys) 0) ≡ done (before ++ ys) (at + length (skips k ys))
unfolding ones skips
entries-read s none k from at before rest l small e =
    entries_none s from at (before ++ []) ∙ ap (λ (i : ℕ). done (before ++ []) i) (sym (add-zero at))
entries-read s (clear {xs = ys} b) k from at before rest l small e =
    ap (λ (xs : List ℕ). entries_at s (ones ys) from at xs) (sym (append_snoc before 0 (replicate (length ys) 0)))
    ∙ entries-read s b (k + 1) from at (before ++ (0 ∷ [])) rest (simp length-append (omega arith)) (simp length-append (omega arith)) e
    ∙ ap (λ (xs : List ℕ). done xs (at + length (skips (k + 1) ys))) (append_snoc before 0 ys)
entries-read s (one {xs = ys} b) k from at before rest l small e =
    let zeros : List ℕ = replicate (length ys) 0 in
    let next : ℕ = at + length (written k) in
    let e' : drop at s ≡ written k ++ (skips 0 ys ++ rest) = e ∙ append_assoc (written k) (skips 0 ys) rest in
    let number : number_at s at ≡ done k next = number-reads s at k (skips 0 ys ++ rest) e' (omega arith) in
    let inside : from + k < length (before ++ 0 ∷ zeros) = simp length-append (omega arith) in
    let behind : next + length (skips 0 ys) ≡ at + length (written k ++ skips 0 ys) = simp length-append (omega arith) in
    ap (λ (n : ℕ). entries_at s n from at (before ++ 0 ∷ zeros)) (add-one (ones ys))
    ∙ entries-step s (ones ys) from at (before ++ 0 ∷ zeros) k next number inside
    ∙ ap (λ (xs : List ℕ). entries_at s (ones ys) (from + k + 1) next xs) (set_at before 0 zeros 1 (from + k) l ∙ sym (append_snoc before 1 zeros))
    ∙ entries-read s b 0 (from + k + 1) next (before ++ (1 ∷ [])) rest (simp length-append (omega arith)) (simp length-append (omega arith))
    (drop-part s at (written k) (skips 0 ys ++ rest) e')
    ∙ ap₂ done (append_snoc before 1 ys) behind

pub list-reads : (s : List ℕ) (at : ℕ) (xs rest : List ℕ) → drop at s ≡ listed xs ++ rest → are_bits xs ≡ true → length xs ≤ largest
    → list_at s (length xs) at ≡ done xs (at + length (listed xs))
unfolding listed
list-reads s at xs rest e bits small =
    let b = are-bits xs bits in
    let less = ones-le xs in
    let e' : drop at s ≡ written (ones xs) ++ (skips 0 xs ++ rest) = e ∙ append_assoc (written (ones xs)) (skips 0 xs) rest in
    let next : ℕ = at + length (written (ones xs)) in
    let behind : next + length (skips 0 xs) ≡ at + length (written (ones xs) ++ skips 0 xs) = simp length-append (omega arith) in
    list_counted s (length xs) at (ones xs) next (number-reads s at (ones xs) (skips 0 xs ++ rest) e' (omega arith)) less
    ∙ entries-read s b 0 0 next [] rest refl (omega arith) (drop-part s at (written (ones xs)) (skips 0 xs ++ rest) e')
    ∙ ap (λ (i : ℕ). done xs i) behind

-- READ, THEN WRITTEN

-- clear entries add to the next skip, and to nothing else
module _ (xs : List ℕ) where
  skips-clear : (n k : ℕ) → skips k (replicate n 0 ++ xs) ≡ skips (k + n) xs
  unfolding skips
  skips-clear zero k = ap (λ (i : ℕ). skips i xs) (sym (add-zero k))
  skips-clear (suc n) k = let i : k + 1 + n ≡ k + suc n = omega arith in skips-clear n (k + 1) ∙ ap (λ (i : ℕ). skips i xs) i

  ones-clear : (n : ℕ) → ones (replicate n 0 ++ xs) ≡ ones xs
  unfolding ones
  ones-clear zero = refl
  ones-clear (suc n) = ones-clear n

  bits-clear : (n : ℕ) → are_bits (replicate n 0 ++ xs) ≡ are_bits xs
  unfolding are_bits
  bits-clear zero = refl
  bits-clear (suc n) = bits-clear n

-- what is read behind the entries before: m entries, n of them set
record Found (s : List ℕ) (n at m : ℕ) (before xs : List ℕ) (next : ℕ) : Type 0 where
  found : List ℕ
  entries : xs ≡ before ++ found
  size : length found ≡ m
  bits : are_bits found ≡ true
  count : ones found ≡ n
  bytes : drop at s ≡ skips 0 found ++ drop next s
  forward : at ≤ next
  inside : next ≤ length s

-- the entries of which the one behind k clear ones is set
abbrev up_to : List ℕ → ℕ → List ℕ
up_to before k = (before ++ replicate k 0) ++ (1 ∷ [])

up-to-length : (before : List ℕ) (k : ℕ) → length (up_to before k) ≡ length before + k + 1
up-to-length before k = simp (length-append, length-replicate) (omega arith)

clear-split : (before : List ℕ) (k m : ℕ) → k < m → before ++ replicate m 0 ≡ (before ++ replicate k 0) ++ 0 ∷ replicate (m - suc k) 0
clear-split before k m h =
    let i : m ≡ k + suc (m - suc k) = omega arith in
    ap (λ (j : ℕ). before ++ replicate j 0) i
    ∙ ap (λ (r : List ℕ). before ++ r) (sym (replicate-append-replicate k (suc (m - suc k)) 0))
    ∙ sym (append_assoc before (replicate k 0) (0 ∷ replicate (m - suc k) 0))

up-to-set : (before : List ℕ) (k m : ℕ) → k < m → set (before ++ replicate m 0) (length before + k) 1 ≡ up_to before k ++ replicate (m - suc k) 0
up-to-set before k m h =
    ap (λ (r : List ℕ). set r (length before + k) 1) (clear-split before k m h)
    ∙ set_at (before ++ replicate k 0) 0 (replicate (m - suc k) 0) 1 (length before + k) (simp (length-append, length-replicate))
    ∙ sym (append_snoc (before ++ replicate k 0) 1 (replicate (m - suc k) 0))

none_found : (s : List ℕ) (at m : ℕ) (before : List ℕ) → at ≤ length s → Found s 0 at m before (before ++ replicate m 0) at
unfolding ones skips are_bits
none_found s at m before h =
    let clear : List ℕ = replicate m 0 in
    let zeros : clear ≡ clear ++ [] = sym (append-nil clear) in
    record {
      found = clear;
      entries = refl;
      size = length-replicate m 0;
      bits = ap are_bits zeros ∙ bits-clear [] m;
      count = ap ones zeros ∙ ones-clear [] m;
      bytes = ap (λ (r : List ℕ). r ++ drop at s) (sym (ap (λ (r : List ℕ). skips 0 r) zeros ∙ skips-clear [] m 0));
      forward = omega arith;
      inside = h;
    }

one_found : (s : List ℕ) (n at m k : ℕ) (before xs : List ℕ) (then next : ℕ) → k < m → NumberWrites s at k then
    → Found s n then (m - suc k) (up_to before k) xs next → Found s (suc n) at m before xs next
unfolding ones skips are_bits
one_found s n at m k before xs then next h w r =
    let clear : List ℕ = replicate k 0 in
    let form : skips 0 (clear ++ 1 ∷ r.found) ≡ written k ++ skips 0 r.found =
    skips-clear (1 ∷ r.found) k 0 ∙ ap (λ (j : ℕ). written j ++ skips 0 r.found) (zero-add k) in
    record {
      found = clear ++ 1 ∷ r.found;
      entries = r.entries ∙ append_snoc (before ++ clear) 1 r.found ∙ append_assoc before clear (1 ∷ r.found);
      size = simp (length-append, length-replicate) (omega arith);
      bits = bits-clear (1 ∷ r.found) k ∙ r.bits;
      count = ones-clear (1 ∷ r.found) k ∙ add-one (ones r.found) ∙ ap suc r.count;
      bytes = w.bytes ∙ rw (form, r.bytes) (sym (append_assoc (written k) (skips 0 r.found) (drop next s)));
      forward = omega arith;
      inside = r.inside;
    }

entries-found : (n : ℕ) (s : List ℕ) (at m : ℕ) (before xs : List ℕ) (next : ℕ) → Bytes s → at ≤ length s
    → entries_at s n (length before) at (before ++ replicate m 0) ≡ done xs next → Found s n at m before xs next
entries-found zero s at m before xs next b h e =
    let d : done (before ++ replicate m 0) at ≡ done xs next = sym (entries_none s (length before) at (before ++ replicate m 0)) ∙ e in
    let o : at ≡ next = cc in
    let p : before ++ replicate m 0 ≡ xs = cc in
    subst₂ (λ (ys : List ℕ) (i : ℕ). Found s 0 at m before ys i) p o (none_found s at m before h)
entries-found (suc n) s at m before xs next b h e =
    let entries : List ℕ = before ++ replicate m 0 in
    let g : Went (number_at s at) (on_skip s n (length before) at entries) xs next = went _ _ _ _ (sym (entries-steps s n (length before) at entries) ∙ e) in
    let k : ℕ = g.value in
    let w : NumberWrites s at k g.next = number-writes s at k g.next b g.before in
    let p : (ltb (length before + k) (length entries) ≡ true) × (entries_at s n (length before + k + 1) g.next (set entries (length before + k) 1) ≡ done xs next) =
    took _ _ _ _ _ refl g.after in
    let q = ltb-true (length before + k) (length entries) p.0 in
    let l : k < m = omega (arith, simp (length-append, length-replicate) at q) in
    one_found s n at m k before xs g.next next l w
    (entries-found n s g.next (m - suc k) (up_to before k) xs next b w.inside
    (ap₂ (λ (i : ℕ) (r : List ℕ). entries_at s n i g.next r) (up-to-length before k) (sym (up-to-set before k m l)) ∙ p.1))

-- what a list of n entries that is read tells of the bytes
pub record ListWrites (s : List ℕ) (n at : ℕ) (xs : List ℕ) (next : ℕ) : Type 0 where
  pub bytes : drop at s ≡ listed xs ++ drop next s
  pub size : length xs ≡ n
  pub bits : are_bits xs ≡ true
  pub forward : at < next
  pub inside : next ≤ length s

pub list-writes : (s : List ℕ) (size at : ℕ) (xs : List ℕ) (next : ℕ) → Bytes s → list_at s size at ≡ done xs next → ListWrites s size at xs next
unfolding listed
list-writes s size at xs next b e =
    let g : Went (number_at s at) (on_count s size at) xs next = went _ _ _ _ (sym (list_steps s size at) ∙ e) in
    let w : NumberWrites s at g.value g.next = number-writes s at g.value g.next b g.before in
    let p : (leb g.value size ≡ true) × (entries_at s g.value 0 g.next (replicate size 0) ≡ done xs next) = took _ _ _ _ _ refl g.after in
    let r : Found s g.value g.next size [] xs next = entries-found g.value s g.next size [] xs next b w.inside p.1 in
    let form : listed xs ≡ written g.value ++ skips 0 r.found =
    ap listed r.entries ∙ ap (λ (n : ℕ). written n ++ skips 0 r.found) r.count in
    let long = (length-written g.value).0 in
    record {
      bytes = w.bytes ∙ rw (form, r.bytes) (sym (append_assoc (written g.value) (skips 0 r.found) (drop next s)));
      size = ap length r.entries ∙ r.size;
      bits = ap are_bits r.entries ∙ r.bits;
      forward = omega arith;
      inside = r.inside;
    }

pub list-no-end : (s : List ℕ) (size at : ℕ) → NoEnd (list_at s size at)
unfolding list_at entries_at
list-no-end s size at = no-end-then (number_at s at) (on_count s size at) (number-no-end s at)
    (λ n next. no-end-test (leb n size) (entries_at s n 0 next (replicate size 0)) (refused_at 9 at) (entry n 0 next (replicate size 0)) tt)
  where
    entry : (n from at : ℕ) (entries : List ℕ) → NoEnd (entries_at s n from at entries)
    entry zero from at entries = tt
    entry (suc n) from at entries = no-end-then (number_at s at) (on_skip s n from at entries) (number-no-end s at)
        (λ k next. no-end-test (ltb (from + k) (length entries)) (entries_at s n (from + k + 1) next (set entries (from + k) 1)) (refused_at 9 at)
        (entry n (from + k + 1) next (set entries (from + k) 1)) tt)
