-- A number in a stream: groups of seven bits, lowest first, the high bit set while more follow. Assumes nothing.
use Rattle.std.specs.Prelude.{ℕ, zero, suc, ◌+◌, ◌-◌, ◌*◌, ◌/◌, ◌%◌, Bool, true, false, ◌&&◌, List, [], ◌∷◌, ltb, leb, eqb, length, get_or, Result}
use Rattle.refusal.specs.Answer.{Answer, done, refused_at, unless, reading, to_offset}
use Rattle.refusal.specs.declared.Refusal.{Refusal}
use Rattle.refusal.specs.Writing.{Buffered, buffered, writing}

-- WRITING

-- the shortest form, of at most k + 1 groups
unfoldable pub groups : ℕ → ℕ → List ℕ
groups zero n = n ∷ []
groups (suc k) n = elim (ltb n 128) [ true ↦ n ∷ [] | false ↦ (n % 128 + 128) ∷ groups k (n / 128) ]

-- n + 1 groups are more than n can need
unfoldable pub written : ℕ → List ℕ
unfolding groups
written n = groups n n

-- READING

-- the largest number, and the most groups that one has
abbrev pub largest : ℕ
largest = 4294967295

abbrev pub most : ℕ
most = 5

-- The last group, x, ends the number's value. 8: it adds nothing and is not the only one, or the value is too large
abbrev pub last_group : ℕ → ℕ → ℕ → ℕ → ℕ → Answer ℕ
last_group first weight sum x next =
    elim (ltb 1 weight && eqb x 0) [
      | true ↦ refused_at 8 first
      | false ↦ elim (leb (sum + weight * x) largest) [ true ↦ done (sum + weight * x) next | false ↦ refused_at 8 first ]
    ]

-- From the group at an offset on: how many may still come, what a one counts here, and the sum of the groups before.
-- 7: no byte is left; 8: all groups are used up
unfoldable pub group_at : List ℕ → ℕ → ℕ → ℕ → ℕ → ℕ → Answer ℕ
group_at s first zero weight sum at = refused_at 8 first
group_at s first (suc buffered) weight sum at =
    elim (ltb at (length s)) [
      | false ↦ refused_at 7 first
      | true ↦ let x = get_or s at 0 in
          elim (ltb x 128) [
            | true ↦ last_group first weight sum x (at + 1)
            | false ↦ group_at s first buffered (weight * 128) (sum + weight * (x - 128)) (at + 1)
          ]
    ]

-- 10: the offset is past the slice
abbrev pub in_slice : List ℕ → ℕ → Bool × ℕ
in_slice s at = (leb at (length s), 10)

-- the number at an offset
unfoldable pub number_at : List ℕ → ℕ → Answer ℕ
unfolding group_at
number_at s at = unless (in_slice s at ∷ []) (group_at s at most 1 0 at)

-- THE CALLS

abbrev pub number_answer : Result (ℕ × ℕ) Refusal → Answer ℕ
number_answer = reading

abbrev pub written_answer : Result ℕ Refusal → Answer (Unit {0})
written_answer = to_offset

-- a writer's answer with its buffer
abbrev pub written_buffered : Result ℕ Refusal → List ℕ → Buffered
written_buffered w buffer = buffered (written_answer w) buffer

abbrev pub write_number : ℕ → List ℕ → ℕ → Buffered
write_number n old at = writing (in_slice old at ∷ []) old at (written n)
