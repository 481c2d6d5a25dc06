-- A sheet list in a stream: the count of set entries, then for each the entries skipped since the one before. Assumes nothing.
use Rattle.std.specs.Prelude.{ℕ, zero, suc, ◌+◌, Bool, true, false, List, [], ◌∷◌, ◌++◌, ltb, leb, eqb, length, set, replicate, Result}
use Rattle.refusal.specs.Answer.{Answer, done, refused_at, to_offset, and_then, without_value, value_or, itself}
use Rattle.refusal.specs.declared.Refusal.{Refusal}
use Rattle.refusal.specs.Writing.{Buffered, buffered, writing}
use Rattle.number.specs.Number.{written, number_at, in_slice}

-- WRITING

-- how many entries are set
unfoldable pub ones : List ℕ → ℕ
ones [] = 0
ones (x ∷ xs) = elim (eqb x 1) [ true ↦ ones xs + 1 | false ↦ ones xs ]

-- the skips to the set entries, where k entries have been skipped already
unfoldable pub skips : ℕ → List ℕ → List ℕ
skips k [] = []
skips k (x ∷ xs) = elim (eqb x 1) [ true ↦ written k ++ skips 0 xs | false ↦ skips (k + 1) xs ]

unfoldable pub listed : List ℕ → List ℕ
unfolding ones skips
listed xs = written (ones xs) ++ skips 0 xs

-- READING

-- n set entries more, the next of them at entry from or later; entries holds those so far. 9: a skip passes the last entry
unfoldable pub entries_at : List ℕ → ℕ → ℕ → ℕ → List ℕ → Answer (List ℕ)
entries_at s zero from at entries = done entries at
entries_at s (suc n) from at entries =
    and_then (number_at s at) (λ k next.
    elim (ltb (from + k) (length entries)) [
      | true ↦ entries_at s n (from + k + 1) next (set entries (from + k) 1)
      | false ↦ refused_at 9 at
    ])

-- the list of so many entries at an offset. 9: the count passes the last entry
unfoldable pub list_at : List ℕ → ℕ → ℕ → Answer (List ℕ)
unfolding entries_at
list_at s size at =
    and_then (number_at s at) (λ n next. elim (leb n size) [ true ↦ entries_at s n 0 next (replicate size 0) | false ↦ refused_at 9 at ])

-- its two steps alone: the count, and the place of a set entry
unfoldable pub count_at : List ℕ → ℕ → ℕ → Answer ℕ
count_at s size at = and_then (number_at s at) (λ n next. elim (leb n size) [ true ↦ done n next | false ↦ refused_at 9 at ])

unfoldable pub place_at : List ℕ → ℕ → ℕ → ℕ → Answer ℕ
place_at s size from at = and_then (number_at s at) (λ k next. elim (ltb (from + k) size) [ true ↦ done (from + k) next | false ↦ refused_at 9 at ])

-- THE CALLS

abbrev pub list_answer : Result ℕ Refusal → Answer (Unit {0})
list_answer = to_offset

-- a list's answer with its buffer
abbrev pub list_buffered : Result ℕ Refusal → List ℕ → Buffered
list_buffered r buffer = buffered (list_answer r) buffer

-- a buffer takes what is done, and stays as it was where nothing is
abbrev pub read_into : Answer (List ℕ) → List ℕ → Buffered
read_into a old = buffered (without_value a) (value_or a itself old)

abbrev pub read_list : List ℕ → ℕ → List ℕ → Buffered
read_list s at old = read_into (list_at s (length old) at) old

-- each byte is 0 or 1
unfoldable pub are_bits : List ℕ → Bool
are_bits [] = true
are_bits (x ∷ xs) = elim (leb x 1) [ true ↦ are_bits xs | false ↦ false ]

abbrev pub write_list : List ℕ → List ℕ → ℕ → Buffered
write_list entries old at = writing (in_slice old at ∷ (are_bits entries, 4) ∷ []) old at (listed entries)
