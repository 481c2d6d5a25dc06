-- What the calls on streams answer and leave, in the documents' numbers. Assumes nothing.
use Rattle.std.specs.Prelude.{ℕ, Bool, List, [], ◌∷◌, ◌++◌, leb, eqb, length, Option, Some, None, Result as ResultOf, Ok, Err}
use Rattle.refusal.specs.Answer.{Answer, done, ended, turned, unless, and_then, value_or, reading}
use Rattle.refusal.specs.declared.Refusal.{Refusal}
use Rattle.refusal.specs.Writing.{Buffered, writing}
use Rattle.list.specs.Sheet.{listed, are_bits, read_into}
use Rattle.shape.specs.Sizes.{shape_tests, detectors_of, layer_edges_of}
use Rattle.shape.specs.declared.Shape.{Shape}
use Rattle.record.specs.Records.{header, round_at, Result, result_edges, result_escapes, result, result_at}

-- THE ANSWERS: a header, and a round of the input or of the result, which may not be there

abbrev pub header_answer : ResultOf (Shape × ℕ) Refusal → Answer Shape
header_answer = reading

abbrev pub round_answer : ResultOf (Option ℕ) Refusal → Answer (Unit {0})
round_answer (Ok (Some next)) = done tt next
round_answer (Ok None) = ended
round_answer (Err f) = turned f

abbrev pub result_answer : ResultOf (Option (ℕ × ℕ)) Refusal → Answer ℕ
result_answer (Ok (Some r)) = done r.0 r.1
result_answer (Ok None) = ended
result_answer (Err f) = turned f

-- THE TESTS, in the documents' order

-- 1, 2, 31, 10: the shape, and the offset in a slice of so many bytes
abbrev pub place_tests : Shape → ℕ → ℕ → List (Bool × ℕ)
place_tests sh len at = shape_tests sh.height sh.distance sh.model ++ ((leb at len, 10) ∷ [])

-- 3: a round's defects, one byte a detector
abbrev pub defects_test : Shape → List ℕ → Bool × ℕ
defects_test sh defects = (eqb (length defects) (detectors_of sh.height sh.distance), 3)

-- 5: the edge buffer, one byte an edge of a layer
abbrev pub edges_test : Shape → List ℕ → Bool × ℕ
edges_test sh edges = (eqb (length edges) (layer_edges_of sh.model sh.height sh.distance), 5)

-- 6: the escape buffer, one byte a detector
abbrev pub escapes_test : Shape → List ℕ → Bool × ℕ
escapes_test sh escapes = (eqb (length escapes) (detectors_of sh.height sh.distance), 6)

-- THE HEADER

abbrev pub write_header : Shape → List ℕ → ℕ → Buffered
write_header sh old at = writing (place_tests sh (length old) at) old at (header sh)

-- A ROUND OF THE INPUT

abbrev pub read_round : Shape → List ℕ → ℕ → List ℕ → Buffered
read_round sh s at old =
    read_into (unless (place_tests sh (length s) at ++ (defects_test sh old ∷ [])) (round_at s (detectors_of sh.height sh.distance) at)) old

abbrev pub write_round : Shape → List ℕ → List ℕ → ℕ → Buffered
write_round sh defects old at =
    writing (place_tests sh (length old) at ++ (defects_test sh defects ∷ (are_bits defects, 4) ∷ [])) old at (listed defects)

-- A ROUND OF THE RESULT

-- what its reader leaves: the steps, and both buffers
pub record ResultBuffered : Type 0 where
  pub answer : Answer ℕ
  pub edges : List ℕ
  pub escapes : List ℕ

abbrev pub result_buffered : Answer ℕ → List ℕ → List ℕ → ResultBuffered
result_buffered a edges escapes = record { answer = a; edges = edges; escapes = escapes }

-- the steps of a round of the result
abbrev pub steps_of : Answer Result → Answer ℕ
steps_of a = and_then a (λ r next. done r.steps next)

-- the buffers take what is done, and stay as they were where nothing is
abbrev pub read_into_both : Answer Result → List ℕ → List ℕ → ResultBuffered
read_into_both a edges escapes = result_buffered (steps_of a) (value_or a result_edges edges) (value_or a result_escapes escapes)

abbrev pub read_result : Shape → List ℕ → ℕ → List ℕ → List ℕ → ResultBuffered
read_result sh s at edges escapes =
    read_into_both
    (unless (place_tests sh (length s) at ++ (edges_test sh edges ∷ escapes_test sh escapes ∷ []))
    (result_at s (layer_edges_of sh.model sh.height sh.distance) (detectors_of sh.height sh.distance) at))
    edges
    escapes

abbrev pub write_result : Shape → Result → List ℕ → ℕ → Buffered
write_result sh r old at =
    writing
    (place_tests sh (length old) at
    ++ (edges_test sh r.edges ∷ escapes_test sh r.escapes ∷ (are_bits r.edges, 4) ∷ (are_bits r.escapes, 4) ∷ []))
    old
    at
    (result r)

abbrev pub as_result : List ℕ → List ℕ → ℕ → Result
as_result edges escapes steps = record { edges = edges; escapes = escapes; steps = steps }
