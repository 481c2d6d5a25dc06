-- The tail of a buffer, lent to a writer and back in its place. Assumes nothing.
use Rattle.std.specs.Prelude.{ℕ, ◌+◌, ◌-◌, ◌≤◌, ◌<◌, ◌≡◌, refl, Bool, true, false, List, [], ◌++◌, Option, Some, None, Result, Ok, Err, leb, length, take, drop}
use Rattle.std.specs.Option.{ok_or}
use Rattle.std.proofs.Common.{arith, sym, ◌∙◌, ap, append_assoc, append-nil, leb-true, leb-false, length-drop, take-append-drop, drop_of_length-le, take_all, drop-drop}
use Rattle.refusal.specs.Answer.{done, refused}
use Rattle.refusal.specs.Tests.{Passes}
use Rattle.refusal.specs.Writing.{buffered, writing, Put, put_to, front, laid}
use Rattle.refusal.specs.Filling.{front_fits, front-full, writing-full, writing-done}

-- the elements from the offset on, and the whole with others in their place
abbrev pub tail : List ℕ → ℕ → List ℕ
tail old at = take (length old - at) (drop at old)

abbrev pub put_back : List ℕ → ℕ → List ℕ → List ℕ
put_back old at last = take at old ++ (last ++ drop (length old - at) (drop at old))

module _ (old : List ℕ) (at : ℕ) (inside : at ≤ length old) where
  tail-is : tail old at ≡ drop at old
  tail-is = take_all (length old - at) (drop at old) (omega (arith, length-drop at old))

  pub put-back : (last : List ℕ) → put_back old at last ≡ take at old ++ last
  put-back last =
      let none : drop (length old - at) (drop at old) ≡ [] = drop_of_length-le (drop at old) {i = length old - at} (omega (arith, length-drop at old)) in
      rw (none, append-nil) refl

  module _ (bytes : List ℕ) (count : Option ℕ) (last : List ℕ) (put : put_to count last ≡ front (tail old at) bytes) where
    of-drop : put_to count last ≡ front (drop at old) bytes
    of-drop = put ∙ ap (λ (l : List ℕ). front l bytes) tail-is

    -- the record had room
    pub tail-fits : length bytes ≤ length old - at → (count ≡ Some (length bytes)) × (put_back old at last ≡ take at old ++ (bytes ++ drop (length bytes) (drop at old)))
    tail-fits h =
        let e = of-drop ∙ front_fits (drop at old) bytes (omega (arith, length-drop at old)) in
        (ap (λ (p : Put). p.count) e, put-back last ∙ ap (λ (p : Put). take at old ++ p.buffer) e)

    pub tail-laid : length bytes ≤ length old - at → (count ≡ Some (length bytes)) × (put_back old at last ≡ laid old at bytes)
    tail-laid h =
        let r = tail-fits h in
        (r.0, r.1 ∙ rw (drop-drop, append_assoc) refl)

    -- it had none
    pub tail-full : length old - at < length bytes → (count ≡ None) × (put_back old at last ≡ old)
    tail-full h =
        let e = of-drop ∙ front-full (drop at old) bytes (omega (arith, length-drop at old)) in
        (ap (λ (p : Put). p.count) e, put-back last ∙ ap (λ (p : Put). take at old ++ p.buffer) e ∙ take-append-drop at old)

    -- which of the two, by the count
    pub count_none : count ≡ None → length old - at < length bytes
    count_none z = go (leb (length bytes) (length old - at)) refl
      where
        go : (b : Bool) → leb (length bytes) (length old - at) ≡ b → length old - at < length bytes
        go true e = let r = (tail-fits (leb-true _ _ e)).0 in absurd (let q : None ≡ Some (length bytes) = sym z ∙ r in cc)
        go false e = leb-false _ _ e

    module _ (n : ℕ) (z : count ≡ Some n) where
      pub count-some : length bytes ≤ length old - at
      count-some = go (leb (length bytes) (length old - at)) refl
        where
          go : (b : Bool) → leb (length bytes) (length old - at) ≡ b → length bytes ≤ length old - at
          go true e = leb-true _ _ e
          go false e = let r = (tail-full (leb-false _ _ e)).0 in absurd (let q : None ≡ Some n = sym r ∙ z in cc)

      pub count-is : n ≡ length bytes
      count-is = let r : Some n ≡ Some (length bytes) = sym z ∙ (tail-fits count-some).0 in cc

-- what was put, by the answer that refuses where nothing was
module _ {A E : Type 0} where
  pub put_none : (o : Option A) (e f : E) → ok_or o e ≡ Err f → o ≡ None
  put_none None e f h = refl
  put_none (Some a) e f h = absurd (let q : ◌≡◌ {A = Result A E} (Ok a) (Err f) = h in cc)

  pub put_some : (o : Option A) (e : E) (a : A) → ok_or o e ≡ Ok a → o ≡ Some a
  put_some None e a h = absurd (let q : ◌≡◌ {A = Result A E} (Err e) (Ok a) = h in cc)
  put_some (Some b) e a h = let q : ◌≡◌ {A = Result A E} (Ok b) (Ok a) = h in cc

-- a writer that tests, then hands on its tail
module _ (tests : List (Bool × ℕ)) (old : List ℕ) (at : ℕ) (inside : at ≤ length old) (bytes : List ℕ) (count : Option ℕ) (last : List ℕ)
    (put : put_to count last ≡ front (tail old at) bytes) (passes : Passes tests) where
  pub wrote_none : count ≡ None → buffered (refused 11) (put_back old at last) ≡ writing tests old at bytes
  wrote_none z =
      let full = count_none old at inside bytes count last put z in
      rw (tail-full old at inside bytes count last put full).1 (writing-full tests old at bytes passes full)

  module _ (n : ℕ) (z : count ≡ Some n) where
    pub wrote-inside : at + n ≤ length old
    wrote-inside = omega (arith, inside, count-some old at inside bytes count last put n z, count-is old at inside bytes count last put n z)

    pub wrote-some : buffered (done tt (at + n)) (put_back old at last) ≡ writing tests old at bytes
    wrote-some =
        let r = count-some old at inside bytes count last put n z in
        let e = tail-laid old at inside bytes count last put r in
        rw (count-is old at inside bytes count last put n z, e.1) (writing-done tests old at bytes passes r)
