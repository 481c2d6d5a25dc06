-- A round of the result whose tests all pass: only the room is left, and a list of zeros has one byte. Assumes nothing.
use Prim.Native.Nat.{ℕ, ◌+◌, ◌≤◌, min}
use mathlib.Core.Path.{◌≡◌, refl, sym, ◌∙◌, ap}
use mathlib.Core.Bool.{Bool, true}
use mathlib.Core.List.{List, [], ◌∷◌, ◌++◌}
use borrow.Author.Tests.{le-leb, eq-eqb}
use lib.ListN.{length, replicate, length-replicate}
use Rattle.refusal.specs.Answer.{Answer, done, unless, value_or}
use Rattle.refusal.specs.Tests.{Passes, unless-append}
use Rattle.refusal.specs.Writing.{buffered, writing, room, laid}
use Rattle.number.specs.Number.{written}
use Rattle.list.specs.Sheet.{are_bits}
use Rattle.list_writer.specs.Gaps.{top}
use Rattle.list_writer.specs.Laws.{top-zeros, bits-told, listed-zero}
use Rattle.shape.proofs.Ranges.{halves}
use Rattle.shape.specs.Sizes.{IsShape, height_ok, distance_ok, detectors_of, layer_edges_of}
use Rattle.shape.specs.declared.Shape.{Shape}
use Rattle.record.specs.Records.{result}
use Rattle.record.specs.Calls.{place_tests, edges_test, escapes_test, write_result, as_result}
use Rattle.record.proofs.Laws.{result-is}

-- the tests of the lists, behind those of the place
abbrev pub bits : List ℕ → List ℕ → List (Bool × ℕ)
bits edges escapes = (are_bits edges, 4) ∷ (are_bits escapes, 4) ∷ []

abbrev pub more : Shape → List ℕ → List ℕ → List (Bool × ℕ)
more sh edges escapes = edges_test sh edges ∷ escapes_test sh escapes ∷ bits edges escapes

-- tests that pass change nothing
pub passed : (tests : List (Bool × ℕ)) (old : List ℕ) (at : ℕ) (bytes : List ℕ) → Passes tests → writing [] old at bytes ≡ writing tests old at bytes
passed tests old at bytes h =
    let whole : Answer (Unit {0}) = done tt (at + length bytes) in
    let e : unless (tests ++ (room old at bytes ∷ [])) whole ≡ unless (room old at bytes ∷ []) whole =
    unless-append tests (room old at bytes ∷ []) whole ∙ h (Unit {0}) (unless (room old at bytes ∷ []) whole) in
    sym (ap (λ (a : Answer (Unit {0})). buffered a (value_or a (λ u. laid old at bytes) old)) e)

-- what a caller knows of its round
module _ (sh : Shape) (edges escapes old : List ℕ) (at : ℕ) (range : IsShape sh) (inside : at ≤ length old)
    (few : length edges ≡ layer_edges_of sh.model sh.height sh.distance) (size : length escapes ≡ detectors_of sh.height sh.distance)
    (clean : are_bits edges ≡ true) (pure : are_bits escapes ≡ true) where
  round-passes : Passes (place_tests sh (length old) at ++ more sh edges escapes)
  round-passes A a =
      let p = halves (height_ok sh.height) (distance_ok sh.distance) range.sizes in
      rw (p.0, p.1, range.model, le-leb at (length old) inside, eq-eqb (length edges) (layer_edges_of sh.model sh.height sh.distance) few, eq-eqb (length escapes) (detectors_of sh.height sh.distance) size, clean, pure) refl

  pub known : (steps : ℕ) → writing [] old at (result (as_result edges escapes steps)) ≡ write_result sh (as_result edges escapes steps) old at
  known steps = passed (place_tests sh (length old) at ++ more sh edges escapes) old at (result (as_result edges escapes steps)) round-passes

-- ZEROS

pub zeros-bits : (n : ℕ) → are_bits (replicate n 0) ≡ true
zeros-bits n = bits-told (replicate n 0) 0 (ap (λ (m : ℕ). min m 2) (sym (top-zeros n)))

pub zeros-long : (n : ℕ) → length (replicate {A = ℕ} n 0) ≡ n
zeros-long n = length-replicate {A = ℕ} n 0

-- a round of two lists of zeros
pub quiet_is : (edges escapes : List ℕ) (steps : ℕ) → top edges ≡ 0 → top escapes ≡ 0 → result (as_result edges escapes steps) ≡ 0 ∷ 0 ∷ written steps
quiet_is edges escapes steps e k = result-is (as_result edges escapes steps) ∙ rw (listed-zero edges e, listed-zero escapes k) refl
