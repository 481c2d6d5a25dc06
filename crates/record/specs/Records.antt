-- What stands in the streams: the header, a round of the input, and a round of the result. Assumes nothing.
use Rattle.std.specs.Prelude.{ℕ, true, false, List, ◌++◌, ltb, length}
use Rattle.refusal.specs.Answer.{Answer, done, ended, refused, and_then}
use Rattle.number.specs.Number.{written, number_at}
use Rattle.list.specs.Sheet.{listed, list_at}
use Rattle.shape.specs.Sizes.{height_ok, distance_ok, model_ok, shape_by}
use Rattle.shape.specs.declared.Shape.{Shape}

-- THE HEADER: height, distance, noise model

unfoldable pub header : Shape → List ℕ
header sh = written sh.height ++ (written sh.distance ++ written sh.model)

-- each number is tested as soon as it is read: what is done with the model, with the distance, and with the height
abbrev pub on_model : ℕ → ℕ → ℕ → ℕ → Answer Shape
on_model h d m behind = elim (model_ok m) [ true ↦ done (shape_by h d m) behind | false ↦ refused 31 ]

abbrev pub on_distance : List ℕ → ℕ → ℕ → ℕ → Answer Shape
on_distance s h d last = elim (distance_ok d) [ true ↦ and_then (number_at s last) (on_model h d) | false ↦ refused 2 ]

abbrev pub on_height : List ℕ → ℕ → ℕ → Answer Shape
on_height s h next = elim (height_ok h) [ true ↦ and_then (number_at s next) (on_distance s h) | false ↦ refused 1 ]

unfoldable pub header_at : List ℕ → ℕ → Answer Shape
header_at s at = and_then (number_at s at) (on_height s)

-- no bytes left is an end; anything else is read
abbrev pub unless_ended : {A : Type 0} → List ℕ → ℕ → Answer A → Answer A
unless_ended s at a = elim (ltb at (length s)) [ true ↦ a | false ↦ ended ]

-- A ROUND OF THE INPUT: one sheet list of its defects

abbrev pub round_at : List ℕ → ℕ → ℕ → Answer (List ℕ)
round_at s detectors at = unless_ended s at (list_at s detectors at)

-- A ROUND OF THE RESULT: the committed edges, the escaped defects, the merging steps

pub record Result : Type 0 where
  pub edges : List ℕ
  pub escapes : List ℕ
  pub steps : ℕ

abbrev pub result_edges : Result → List ℕ
result_edges r = r.edges

abbrev pub result_escapes : Result → List ℕ
result_escapes r = r.escapes

unfoldable pub result : Result → List ℕ
result r = listed r.edges ++ (listed r.escapes ++ written r.steps)

unfoldable pub result_from : List ℕ → ℕ → ℕ → ℕ → Answer Result
result_from s edges detectors at =
    and_then (list_at s edges at) (λ committed next.
    and_then (list_at s detectors next) (λ escaped last.
    and_then (number_at s last) (λ steps behind.
    done (record { edges = committed; escapes = escaped; steps = steps }) behind)))

abbrev pub result_at : List ℕ → ℕ → ℕ → ℕ → Answer Result
result_at s edges detectors at = unless_ended s at (result_from s edges detectors at)
