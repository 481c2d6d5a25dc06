-- What a writer of lists measures, and what it passes over: entries of which none is set. Assumes nothing.
use Rattle.std.specs.Prelude.{ℕ, ◌+◌, ◌-◌, ◌≤◌, ◌<◌, min, max, ◌≡◌, List, [], ◌∷◌, Option, Some, None, length, drop, get_or}
use Rattle.list.specs.Sheet.{ones, skips, listed}

-- the largest entry, 0 of none
unfoldable pub top : List ℕ → ℕ
top [] = 0
top (x ∷ xs) = max x (top xs)

-- the bits of all entries tell apart all 0, 0 or 1, and others; the set entries; the bytes in a stream
pub record Measured (l : List ℕ) (bits count bytes : ℕ) : Type 0 where
  pub bits_are : min bits 2 ≡ min (top l) 2
  pub count-is : count ≡ ones l
  pub bytes-are : bytes ≡ length (listed l)

-- no entry is set from one place up to another: from the second on the same entries are counted, and the same skips written
pub record Gap (l : List ℕ) (from to : ℕ) : Type 0 where
  pub forward : from ≤ to
  pub within : to ≤ length l
  pub counted : ones (drop from l) ≡ ones (drop to l)
  pub skipped : (k : ℕ) → skips k (drop from l) ≡ skips (k + (to - from)) (drop to l)

-- a gap, and behind it a set entry or the end
pub record Found (l : List ℕ) (from to : ℕ) : Type 0 where
  pub gap : Gap l from to
  pub next : to < length l → get_or l to 0 ≡ 1

-- the next set entry, or none up to the end
abbrev pub Next : List ℕ → ℕ → Option ℕ → Type 0
Next l from (Some to) = Found l from to × (to < length l)
Next l from None = Gap l from (length l)
