-- What a call on a stream answers, in the documents' numbers. Assumes nothing.
use Rattle.std.specs.Prelude.{ℕ, Bool, true, false, List, [], ◌∷◌, Result, Ok, Err}
use Rattle.refusal.specs.declared.Refusal.{Refusal}
use Rattle.refusal.specs.declared.Refusal.TheVariants.{Height, Distance, Detectors, Byte, Edges, Escapes, Cut, Form, Entry, Offset, Room, NotWellFormed, WrongStage, LastRound, Model, Limit}

-- A value and the offset behind it; no bytes left; or a refusal's number, for 7, 8 and 9 with the offset of the number's first byte
pub data Answer (A : Type 0) : Type 0 where
  done : A → ℕ → Answer A
  ended : Answer A
  refused : ℕ → Answer A
  refused_at : ℕ → ℕ → Answer A

-- a refusal's number, alone or with the offset of the number's first byte
pub data Code : Type 0 where
  plain : ℕ → Code
  placed : ℕ → ℕ → Code

-- the documents' number of each refusal
abbrev pub code_of : Refusal → Code
code_of Height = plain 1
code_of Distance = plain 2
code_of Detectors = plain 3
code_of Byte = plain 4
code_of Edges = plain 5
code_of Escapes = plain 6
code_of (Cut at) = placed 7 at
code_of (Form at) = placed 8 at
code_of (Entry at) = placed 9 at
code_of Offset = plain 10
code_of Room = plain 11
code_of NotWellFormed = plain 21
code_of WrongStage = plain 22
code_of LastRound = plain 23
code_of Model = plain 31
code_of Limit = plain 32

abbrev pub by_code : {A : Type 0} → Code → Answer A
by_code (plain n) = refused n
by_code (placed n at) = refused_at n at

abbrev pub turned : {A : Type 0} → Refusal → Answer A
turned f = by_code (code_of f)

-- what a call answers where it reads and writes nothing; a reading, with the offset behind it; what ends at an offset; a round, if there is one
abbrev pub answered : {A : Type 0} → Result A Refusal → Answer A
answered (Ok a) = done a 0
answered (Err f) = turned f

abbrev pub reading : {A : Type 0} → Result (A × ℕ) Refusal → Answer A
reading (Ok r) = done r.0 r.1
reading (Err f) = turned f

abbrev pub to_offset : Result ℕ Refusal → Answer (Unit {0})
to_offset (Ok next) = done tt next
to_offset (Err f) = turned f

-- an answer in one number: 0 done, 255 no bytes left, else the refusal's number
abbrev pub status : {A : Type 0} → Answer A → ℕ
status (done a next) = 0
status ended = 255
status (refused n) = n
status (refused_at n at) = n

-- the offset in an answer, or the other one where it has none
abbrev pub place_or : {A : Type 0} → Answer A → ℕ → ℕ
place_or (done a next) other = next
place_or ended other = other
place_or (refused n) other = other
place_or (refused_at n at) other = at

-- the offset behind what is done, or the other one where nothing is
abbrev pub next_or : {A : Type 0} → Answer A → ℕ → ℕ
next_or (done a next) other = next
next_or ended other = other
next_or (refused n) other = other
next_or (refused_at n at) other = other

-- go on with a value, from the offset behind it; an end or a refusal stays
abbrev pub and_then : {A B : Type 0} → Answer A → (A → ℕ → Answer B) → Answer B
and_then (done a next) f = f a next
and_then ended f = ended
and_then (refused n) f = refused n
and_then (refused_at n at) f = refused_at n at

-- the first test that fails gives its refusal; the tests stand in the documents' order
abbrev pub unless : {A : Type 0} → List (Bool × ℕ) → Answer A → Answer A
unless [] a = a
unless (t ∷ ts) a = elim t.0 [ true ↦ unless ts a | false ↦ refused t.1 ]

-- what a value gives where the call is done, and the other where not
abbrev pub value_or : {A B : Type 0} → Answer A → (A → B) → B → B
value_or (done a next) of other = of a
value_or ended of other = other
value_or (refused n) of other = other
value_or (refused_at n at) of other = other

abbrev pub itself : {A : Type 0} → A → A
itself a = a

abbrev pub is_done : {A : Type 0} → Answer A → Bool
is_done (done a next) = true
is_done ended = false
is_done (refused n) = false
is_done (refused_at n at) = false

-- an answer without its value
abbrev pub without_value : {A : Type 0} → Answer A → Answer (Unit {0})
without_value (done a next) = done tt next
without_value ended = ended
without_value (refused n) = refused n
without_value (refused_at n at) = refused_at n at
