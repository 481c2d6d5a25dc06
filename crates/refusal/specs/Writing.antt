-- What a call leaves: its answer and its buffer; and what a writer lays into its buffer. Assumes nothing.
use Rattle.std.specs.Prelude.{ℕ, ◌+◌, ◌-◌, Bool, true, false, List, [], ◌∷◌, ◌++◌, Option, Some, None, leb, length, take, drop}
use Rattle.refusal.specs.Answer.{Answer, done, unless, value_or}

-- what a call with one buffer leaves
pub record Buffered : Type 0 where
  pub answer : Answer (Unit {0})
  pub buffer : List ℕ

abbrev pub buffered : Answer (Unit {0}) → List ℕ → Buffered
buffered a buffer = record { answer = a; buffer = buffer }

-- the record stands at the offset, and every other byte is as it was
abbrev pub laid : List ℕ → ℕ → List ℕ → List ℕ
laid old at bytes = take at old ++ bytes ++ drop (at + length bytes) old

-- 11: the record is longer than the rest of the buffer
abbrev pub room : List ℕ → ℕ → List ℕ → Bool × ℕ
room old at bytes = (leb (length bytes) (length old - at), 11)

-- a record written from an offset on, where no test before fails and it has room
abbrev pub writing : List (Bool × ℕ) → List ℕ → ℕ → List ℕ → Buffered
writing tests old at bytes =
    let a : Answer (Unit {0}) = unless (tests ++ (room old at bytes ∷ [])) (done tt (at + length bytes)) in
    buffered a (value_or a (λ u. laid old at bytes) old)

-- how many bytes were put at a buffer's front, none where they had no room, and the buffer
pub record Put : Type 0 where
  pub count : Option ℕ
  pub buffer : List ℕ

abbrev pub put_to : Option ℕ → List ℕ → Put
put_to n l = record { count = n; buffer = l }

-- the bytes stand in front where they have room; else nothing is written
unfoldable pub front : List ℕ → List ℕ → Put
front old bytes =
    elim (leb (length bytes) (length old)) [
      | true ↦ record { count = Some (length bytes); buffer = bytes ++ drop (length bytes) old }
      | false ↦ record { count = None; buffer = old }
    ]
