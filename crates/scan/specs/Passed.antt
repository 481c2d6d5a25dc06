-- A round that is read into buffers of the right sizes: the tests of the arguments hold, and what is found is the round. Assumes nothing.
use Rattle.std.specs.Prelude.{ℕ, ◌≤◌, ◌≡◌, refl, List, [], ◌∷◌, ◌++◌, length}
use Rattle.std.proofs.Common.{◌∙◌, ap, le-leb, eq-eqb}
use Rattle.refusal.specs.Answer.{Answer, done, ended, refused, refused_at, without_value}
use Rattle.refusal.specs.Tests.{Passes}
use Rattle.refusal.specs.Writing.{Buffered, buffered}
use Rattle.list.specs.Sheet.{read_into}
use Rattle.shape.proofs.Ranges.{halves}
use Rattle.shape.specs.Sizes.{IsShape, height_ok, distance_ok}
use Rattle.shape.specs.declared.Shape.{Shape}
use Rattle.record.specs.Calls.{place_tests, defects_test, edges_test, escapes_test, read_round, read_result, ResultBuffered, result_buffered, read_into_both, steps_of}
use Rattle.record.specs.Records.{Result}
use Rattle.trip.specs.Fits.{detectors_in, edges_in}
use Rattle.trip.specs.Streams.{round_of, result_of}

-- the steps of a round, or all of it: what is left without the value is the same
pub steps-passed : (a : Answer Result) → without_value (steps_of a) ≡ without_value a
steps-passed (done r next) = refl
steps-passed ended = refl
steps-passed (refused e) = refl
steps-passed (refused_at e o) = refl

module _ (s : List ℕ) (sh : Shape) (at : ℕ) (range : IsShape sh) (inside : at ≤ length s) where
  round-passes : (old : List ℕ) → length old ≡ detectors_in sh → Passes (place_tests sh (length s) at ++ (defects_test sh old ∷ []))
  round-passes old size A a =
      let p = halves (height_ok sh.height) (distance_ok sh.distance) range.sizes in
      rw (p.0, p.1, range.model, le-leb at (length s) inside, eq-eqb (length old) (detectors_in sh) size) refl

  pub round-passed : (r : Answer (Unit {0})) (old new : List ℕ) → length old ≡ detectors_in sh → buffered r new ≡ read_round sh s at old
      → r ≡ without_value (round_of s sh at)
  round-passed r old new size e =
      ap (λ (x : Buffered). x.answer) (e ∙ ap (λ (a : Answer (List ℕ)). read_into a old) (round-passes old size (List ℕ) (round_of s sh at)))

  result-passes : (edges escapes : List ℕ) → length edges ≡ edges_in sh → length escapes ≡ detectors_in sh
      → Passes (place_tests sh (length s) at ++ (edges_test sh edges ∷ escapes_test sh escapes ∷ []))
  result-passes edges escapes few size A a =
      let p = halves (height_ok sh.height) (distance_ok sh.distance) range.sizes in
      rw (p.0, p.1, range.model, le-leb at (length s) inside, eq-eqb (length edges) (edges_in sh) few, eq-eqb (length escapes) (detectors_in sh) size) refl

  pub result-passed : (r : Answer ℕ) (edges escapes edges' escapes' : List ℕ) → length edges ≡ edges_in sh → length escapes ≡ detectors_in sh
      → result_buffered r edges' escapes' ≡ read_result sh s at edges escapes
      → without_value r ≡ without_value (result_of s sh at)
  result-passed r edges escapes edges' escapes' few size e =
      ap (λ (x : ResultBuffered). without_value x.answer) (e ∙ ap (λ (a : Answer Result). read_into_both a edges escapes) (result-passes edges escapes few size Result (result_of s sh at)))
      ∙ steps-passed (result_of s sh at)
