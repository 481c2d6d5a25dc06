-- Laws of what the calls cite, for those who use the definitions. Assumes nothing.
use Rattle.std.specs.Prelude.{ℕ, ◌+◌, ◌≤◌, ◌<◌, ◌≡◌, Bool, true, false, List, [], ◌∷◌, ◌++◌, length}
use Rattle.std.proofs.Math.Path.{refl}
use Rattle.std.proofs.Common.{sym, ◌∙◌, ap, length-append, arith, lt-ltb, le-ltb}
use Rattle.refusal.specs.Writing.{buffered}
use Rattle.refusal.specs.Answer.{Answer, done, ended, refused, refused_at, turned, and_then, without_value, is_done, value_or, itself}
use Rattle.refusal.specs.Laws.{turned_as, turned_on, turned-not, turned-passed, done-is, value_not}
use Rattle.refusal.specs.Tests.{Turned}
use Rattle.refusal.specs.Done.{goes_on_lem, went, passes, fails}
use Rattle.refusal.specs.declared.Refusal.{Refusal}
use Rattle.number.specs.Number.{written, number_at}
use Rattle.number.specs.Laws.{length-written}
use Rattle.list.specs.Sheet.{listed, list_at, read_into}
use Rattle.list.specs.Laws.{length-listed}
use Rattle.shape.specs.Sizes.{height_ok, distance_ok, model_ok, detectors_of, layer_edges_of, shape_by}
use Rattle.shape.specs.declared.Shape.{Shape}
use Rattle.record.specs.Records.{header, on_model, on_distance, on_height, header_at, unless_ended, Result, result, result_from, result_at, round_at, result_edges, result_escapes}
use Rattle.record.specs.Calls.{place_tests, defects_test, edges_test, escapes_test, read_round, result_buffered, read_into_both, read_result, steps_of}
use Rattle.record.specs.Laws.{ResultParts, on_edges, on_escapes, on_steps}

-- THE HEADER

pub header-steps : (s : List ℕ) (at : ℕ) → header_at s at ≡ and_then (number_at s at) (on_height s)
unfolding header_at
header-steps s at = refl

pub header-none : (s : List ℕ) (at : ℕ) (f : Refusal) → number_at s at ≡ turned f → header_at s at ≡ turned f
header-none s at f k = header-steps s at ∙ ap (λ (a : Answer ℕ). and_then a (on_height s)) k ∙ turned_as f (on_height s)

pub header-next : (s : List ℕ) (at h next : ℕ) → number_at s at ≡ done h next → header_at s at ≡ on_height s h next
header-next s at h next k = header-steps s at ∙ goes_on_lem (on_height s) k

-- a test that passes, and the number behind it
module _ {A : Type 0} {t : Bool} (e : t ≡ true) (s : List ℕ) (at : ℕ) (f : ℕ → ℕ → Answer A) (other : Answer A) where
  number-turned : (r : Refusal) → number_at s at ≡ turned r → elim t [ true ↦ and_then (number_at s at) f | false ↦ other ] ≡ turned {A = A} r
  number-turned r k = passes (and_then (number_at s at) f) other e ∙ ap (λ (a : Answer ℕ). and_then a f) k ∙ turned_as r f

  number-next : (n next : ℕ) → number_at s at ≡ done n next → elim t [ true ↦ and_then (number_at s at) f | false ↦ other ] ≡ f n next
  number-next n next k = passes (and_then (number_at s at) f) other e ∙ goes_on_lem f k

module _ (s : List ℕ) (h at : ℕ) where
  pub height-wrong : height_ok h ≡ false → on_height s h at ≡ refused 1
  height-wrong e = fails _ _ e

  module _ (e : height_ok h ≡ true) where
    pub distance-turned : (f : Refusal) → number_at s at ≡ turned f → on_height s h at ≡ turned f
    distance-turned f k = number-turned e s at (on_distance s h) (refused 1) f k

    pub distance_next : (d last : ℕ) → number_at s at ≡ done d last → on_height s h at ≡ on_distance s h d last
    distance_next d last k = number-next e s at (on_distance s h) (refused 1) d last k

module _ (s : List ℕ) (h d at : ℕ) where
  pub distance-wrong : distance_ok d ≡ false → on_distance s h d at ≡ refused 2
  distance-wrong e = fails _ _ e

  module _ (e : distance_ok d ≡ true) where
    pub model-turned : (f : Refusal) → number_at s at ≡ turned f → on_distance s h d at ≡ turned f
    model-turned f k = number-turned e s at (on_model h d) (refused 2) f k

    module _ (m behind : ℕ) (k : number_at s at ≡ done m behind) where
      by-model : on_distance s h d at ≡ on_model h d m behind
      by-model = number-next e s at (on_model h d) (refused 2) m behind k

      pub model-wrong : model_ok m ≡ false → on_distance s h d at ≡ refused 31
      model-wrong w = by-model ∙ fails _ _ w

      pub header-done : model_ok m ≡ true → on_distance s h d at ≡ done (shape_by h d m) behind
      header-done w = by-model ∙ passes _ _ w

pub header_is : (sh : Shape) → header sh ≡ written sh.height ++ (written sh.distance ++ written sh.model)
unfolding header
header_is sh = refl

pub header-long : (sh : Shape) → length (header sh) ≡ length (written sh.height) + (length (written sh.distance) + length (written sh.model))
header-long sh =
    ap length (header_is sh)
    ∙ length-append (written sh.height) (written sh.distance ++ written sh.model)
    ∙ ap (λ (n : ℕ). length (written sh.height) + n) (length-append (written sh.distance) (written sh.model))

pub length-header : (sh : Shape) → 0 < length (header sh)
length-header sh = omega (arith, header-long sh, (length-written sh.height).0)

-- A RECORD, by whether a byte is left

module _ {A : Type 0} (s : List ℕ) (at : ℕ) (a : Answer A) where
  pub at-end : length s ≤ at → unless_ended s at a ≡ ended
  at-end h = fails a ended (le-ltb at (length s) h)

  pub before-end : at < length s → unless_ended s at a ≡ a
  before-end h = passes a ended (lt-ltb at (length s) h)

-- A ROUND OF THE RESULT

pub result-is : (r : Result) → result r ≡ listed r.edges ++ (listed r.escapes ++ written r.steps)
unfolding result
result-is r = refl

pub result-long : (r : Result) → length (result r) ≡ length (listed r.edges) + (length (listed r.escapes) + length (written r.steps))
result-long r =
    ap length (result-is r)
    ∙ length-append (listed r.edges) (listed r.escapes ++ written r.steps)
    ∙ ap (λ (n : ℕ). length (listed r.edges) + n) (length-append (listed r.escapes) (written r.steps))

pub length-result : (r : Result) → 0 < length (result r)
length-result r = omega (arith, result-long r, (length-listed r.edges).0)

module _ (s : List ℕ) (edges detectors at : ℕ) where
  pub result-steps : result_from s edges detectors at ≡ and_then (list_at s edges at) (on_edges s detectors)
  unfolding result_from
  result-steps = refl

  pub edges-turned : (f : Refusal) → without_value (list_at s edges at) ≡ turned f → result_from s edges detectors at ≡ turned f
  edges-turned f e = result-steps ∙ turned_on (list_at s edges at) f (on_edges s detectors) e

  module _ (committed : List ℕ) (next : ℕ) (e : list_at s edges at ≡ done committed next) where
    pub escapes-turned : (f : Refusal) → without_value (list_at s detectors next) ≡ turned f → result_from s edges detectors at ≡ turned f
    escapes-turned f k = result-steps ∙ goes_on_lem (on_edges s detectors) e ∙ turned_on (list_at s detectors next) f (on_escapes s committed) k

    module _ (escaped : List ℕ) (last : ℕ) (k : list_at s detectors next ≡ done escaped last) where
      by-steps : result_from s edges detectors at ≡ and_then (number_at s last) (on_steps committed escaped)
      by-steps = result-steps ∙ goes_on_lem (on_edges s detectors) e ∙ goes_on_lem (on_escapes s committed) k

      pub steps-turned : (f : Refusal) → number_at s last ≡ turned f → result_from s edges detectors at ≡ turned f
      steps-turned f n = by-steps ∙ ap (λ (a : Answer ℕ). and_then a (on_steps committed escaped)) n ∙ turned_as f (on_steps committed escaped)

      pub result-done : (steps behind : ℕ) → number_at s last ≡ done steps behind
          → result_from s edges detectors at ≡ done (record { edges = committed; escapes = escaped; steps = steps }) behind
      result-done steps behind n = by-steps ∙ goes_on_lem (on_steps committed escaped) n

pub result_parts : (s : List ℕ) (edges detectors at : ℕ) → is_done (result_from s edges detectors at) ≡ true → ResultParts s edges detectors at
result_parts s edges detectors at h =
    let w = done-is (result_from s edges detectors at) h in
    let a = went (list_at s edges at) (on_edges s detectors) w.0 w.1 (sym (result-steps s edges detectors at) ∙ w.2) in
    let b = went (list_at s detectors a.next) (on_escapes s a.value) w.0 w.1 a.after in
    let c = went (number_at s b.next) (on_steps a.value b.value) w.0 w.1 b.after in
    record {
      committed = a.value;
      next = a.next;
      escaped = b.value;
      last = b.next;
      steps = c.value;
      behind = c.next;
      edges-read = a.before;
      escapes-read = b.before;
      whole = result-done s edges detectors at a.value a.next a.before b.value b.next b.before c.value c.next c.before;
    }

-- BUFFERS AFTER A READING

pub into-turned : (f : Refusal) (old : List ℕ) → buffered (turned f) old ≡ read_into (turned f) old
into-turned f old =
    ap (λ (a : Answer (Unit {0})). buffered a old) (sym (turned-passed (List ℕ) f))
    ∙ ap (λ (l : List ℕ). buffered (without_value (turned {A = List ℕ} f)) l) (sym (value_not (turned f) itself old (turned-not (List ℕ) f)))

pub both-not : (a : Answer Result) (edges escapes : List ℕ) → is_done a ≡ false → result_buffered (steps_of a) edges escapes ≡ read_into_both a edges escapes
both-not a edges escapes e =
    ap (λ (l : List ℕ). result_buffered (steps_of a) l escapes) (sym (value_not a result_edges edges e))
    ∙ ap (λ (l : List ℕ). result_buffered (steps_of a) (value_or a result_edges edges) l) (sym (value_not a result_escapes escapes e))

pub both-turned : (f : Refusal) (edges escapes : List ℕ) → result_buffered (turned f) edges escapes ≡ read_into_both (turned f) edges escapes
both-turned f edges escapes =
    ap (λ (a : Answer ℕ). result_buffered a edges escapes) (sym (turned_as {A = Result} f (λ r next. done r.steps next))) ∙ both-not (turned f) edges escapes (turned-not Result f)

pub done-steps : (a : Answer Result) → is_done (steps_of a) ≡ is_done a
done-steps (done r next) = refl
done-steps ended = refl
done-steps (refused n) = refl
done-steps (refused_at n at) = refl

-- a round that a test turns back
pub round-turned : (sh : Shape) (s : List ℕ) (at : ℕ) (old : List ℕ) (f : Refusal) → Turned (place_tests sh (length s) at ++ (defects_test sh old ∷ [])) f
    → buffered (turned f) old ≡ read_round sh s at old
round-turned sh s at old f h =
    into-turned f old ∙ sym (ap (λ (a : Answer (List ℕ)). read_into a old) (h (List ℕ) (round_at s (detectors_of sh.height sh.distance) at)))

pub result-turned : (sh : Shape) (s : List ℕ) (at : ℕ) (edges escapes : List ℕ) (f : Refusal)
    → Turned (place_tests sh (length s) at ++ (edges_test sh edges ∷ escapes_test sh escapes ∷ [])) f
    → result_buffered (turned f) edges escapes ≡ read_result sh s at edges escapes
result-turned sh s at edges escapes f h =
    both-turned f edges escapes
    ∙ sym (ap (λ (a : Answer Result). read_into_both a edges escapes)
    (h Result (result_at s (layer_edges_of sh.model sh.height sh.distance) (detectors_of sh.height sh.distance) at)))
