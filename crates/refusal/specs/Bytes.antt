-- Lists of bytes, and what stands in a list from an offset on. Assumes nothing.
use Rattle.std.specs.Prelude.{ℕ, suc, ◌+◌, ◌-◌, ◌≤◌, ◌<◌, ◌≡◌, List, [], ◌∷◌, ◌++◌, length, drop, get_or}
use Rattle.std.proofs.Common.{add-one, arith, sym, ◌∙◌, ap, length-append, length-drop, drop-cons, drop-drop}

-- each element is below 256
abbrev pub Bytes : List ℕ → Type 0
Bytes s = (i : ℕ) → i < length s → get_or s i 0 < 256

-- THE NEXT ELEMENT

pub record Next (s : List ℕ) (at x : ℕ) (rest : List ℕ) : Type 0 where
  pub inside : at < length s
  pub first : get_or s at 0 ≡ x
  pub others : drop (at + 1) s ≡ rest

pub next-is : (s : List ℕ) (at x : ℕ) (rest : List ℕ) → drop at s ≡ x ∷ rest → Next s at x rest
next-is s at x rest e =
    let l : length s - at ≡ suc (length rest) = sym (length-drop at s) ∙ ap length e in
    let i : at < length s = omega arith in
    record {
      inside = i;
      first = ap (λ (l : List ℕ). get_or l 0 0) (sym (drop-cons s at 0 i) ∙ e);
      others = sym (drop-drop 1 at s) ∙ ap (λ (l : List ℕ). drop 1 l) e;
    }

pub next_of : (s : List ℕ) (at : ℕ) → at < length s → drop at s ≡ get_or s at 0 ∷ drop (at + 1) s
next_of s at h = rw (add-one, drop-cons s at 0)

-- THE END

-- a part that has an element stands inside the list
pub part-inside : (s : List ℕ) (at : ℕ) (part rest : List ℕ) → 0 < length part → drop at s ≡ part ++ rest → at + length part ≤ length s
part-inside s at part rest h e =
    let l : length s - at ≡ length part + length rest = sym (length-drop at s) ∙ ap length e ∙ length-append part rest in
    omega arith

-- where nothing is left, the offset is the length
pub at-end : (s : List ℕ) (at : ℕ) → at ≤ length s → drop at s ≡ [] → at ≡ length s
at-end s at h e = let l : length s - at ≡ 0 = sym (length-drop at s) ∙ ap length e in omega arith
