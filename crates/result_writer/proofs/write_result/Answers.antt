-- `result_writer::write_result` meets its contract: where all tests pass, only the room is left. Assumes nothing.
use mathlib.Core.Path.{◌≡◌, refl, sym, ◌∙◌, ap}
use mathlib.Core.Bool.{true, false}
use mathlib.Core.List.{List, [], ◌∷◌, ◌++◌}
use Prim.Native.Nat.{ℕ, min}
use borrow.Author.Tests.{eq-eqb, le-leb, lt-leb}
use lib.ListN.{length}
use Rattle.std.specs.Prelude.{leb}
use Rattle.refusal.specs.Tests.{Passes, Turned, pass-none, pass-one, pass-append, turn-here, turn-later, turned-after}
use Rattle.refusal.specs.Writing.{writing}
use Rattle.refusal.specs.declared.Refusal.{Refusal}
use Rattle.refusal.specs.declared.Refusal.TheVariants.{Byte}
use Rattle.list.specs.Sheet.{are_bits}
use Rattle.list_writer.specs.Gaps.{top}
use Rattle.list_writer.specs.Laws.{bits-told}
use Rattle.shape.specs.Sizes.{detectors_of, layer_edges_of}
use Rattle.shape.specs.declared.Shape.{Shape}
use Rattle.record.specs.Records.{result}
use Rattle.record.specs.Calls.{place_tests, edges_test, escapes_test, as_result}
use Rattle.record.proofs.Places.{place-passes, writer-turned}
use Rattle.result_writer.proofs.Passing.{bits, more, passed}
use Rattle.result_writer.proofs.write_result.Goals as goal

module _ (sh : Shape) (edges escapes : List ℕ) (n : ℕ) (e : n ≡ layer_edges_of sh.model sh.height sh.distance) where
  module _ (h : length edges ≡ n) where
    right-edges : (edges_test sh edges).0 ≡ true
    right-edges = eq-eqb (length edges) (layer_edges_of sh.model sh.height sh.distance) (h ∙ e)

    edges-then : (f : Refusal) → Turned (escapes_test sh escapes ∷ bits edges escapes) f → Turned (more sh edges escapes) f
    edges-then f p = turned-after (edges_test sh edges ∷ []) (escapes_test sh escapes ∷ bits edges escapes) f (pass-one (edges_test sh edges).0 5 [] right-edges pass-none) p

    edges-pass : Passes (escapes_test sh escapes ∷ bits edges escapes) → Passes (more sh edges escapes)
    edges-pass p = pass-one (edges_test sh edges).0 5 (escapes_test sh escapes ∷ bits edges escapes) right-edges p

module _ (sh : Shape) (edges escapes : List ℕ) (n : ℕ) (e : n ≡ detectors_of sh.height sh.distance) where
  module _ (h : length escapes ≡ n) where
    right : (escapes_test sh escapes).0 ≡ true
    right = eq-eqb (length escapes) (detectors_of sh.height sh.distance) (h ∙ e)

    wild-edges : are_bits edges ≡ false → Turned (escapes_test sh escapes ∷ bits edges escapes) Byte
    wild-edges k = turn-later (escapes_test sh escapes).0 6 (bits edges escapes) 4 right (turn-here (are_bits edges) 4 ((are_bits escapes, 4) ∷ []) k)

    wild-escapes : are_bits edges ≡ true → are_bits escapes ≡ false → Turned (escapes_test sh escapes ∷ bits edges escapes) Byte
    wild-escapes k m =
        turn-later (escapes_test sh escapes).0 6 (bits edges escapes) 4 right
        (turn-later (are_bits edges) 4 ((are_bits escapes, 4) ∷ []) 4 k (turn-here (are_bits escapes) 4 [] m))

    escapes-pass : are_bits edges ≡ true → are_bits escapes ≡ true → Passes (escapes_test sh escapes ∷ bits edges escapes)
    escapes-pass k m =
        pass-one (escapes_test sh escapes).0 6 (bits edges escapes) right
        (pass-one (are_bits edges) 4 ((are_bits escapes, 4) ∷ []) k (pass-one (are_bits escapes) 4 [] m pass-none))

-- the bits that were measured are those of the list that was given
told : (l given : List ℕ) (bits : ℕ) → l ≡ given → min bits 2 ≡ min (top l) 2 → are_bits given ≡ leb bits 1
told l given bits same h = rw (sym same) (bits-told l bits h)

pub returns-then-first-gt1 : goal.returns-then-first-gt1
returns-then-first-gt1 c =
    let a = c.args in
    let t = c.test_place in
    let m = c.measured-first in
    writer-turned a.shape a.out.now a.at t.result t.ensures (more a.shape a.edges.now a.escapes.now) (result (as_result a.edges.now a.escapes.now a.steps)) c.in_ok-test_place.was Byte
    (edges-then a.shape a.edges.now a.escapes.now c.layer_edges.result c.layer_edges.ensures c.if-edges-layer_edges.false Byte
    (wild-edges a.shape a.edges.now a.escapes.now c.detectors.result c.detectors.ensures c.if-escapes-detectors.false (told m.result.entries.now a.edges.now m.result.bits m.ensures m.result.measured.bits_are ∙ lt-leb _ 1 c.if-first-gt1.true)))

pub returns-then-second-gt1 : goal.returns-then-second-gt1
returns-then-second-gt1 c =
    let a = c.args in
    let t = c.test_place in
    let m = c.measured-first in
    let n = c.measured-second in
    writer-turned a.shape a.out.now a.at t.result t.ensures (more a.shape a.edges.now a.escapes.now) (result (as_result a.edges.now a.escapes.now a.steps)) c.in_ok-test_place.was Byte
    (edges-then a.shape a.edges.now a.escapes.now c.layer_edges.result c.layer_edges.ensures c.if-edges-layer_edges.false Byte
    (wild-escapes a.shape a.edges.now a.escapes.now c.detectors.result c.detectors.ensures c.if-escapes-detectors.false (told m.result.entries.now a.edges.now m.result.bits m.ensures m.result.measured.bits_are ∙ le-leb _ 1 c.if-first-gt1.false)
    (told n.result.entries.now a.escapes.now n.result.bits n.ensures n.result.measured.bits_are ∙ lt-leb _ 1 c.if-second-gt1.true)))

pub returns : goal.returns
returns c =
    let a = c.args in
    let t = c.test_place in
    let m = c.measured-first in
    let n = c.measured-second in
    let e : result (as_result m.result.entries.now n.result.entries.now a.steps) ≡ result (as_result a.edges.now a.escapes.now a.steps) = rw (m.ensures, n.ensures) refl in
    c.put_from.ensures
    ∙ ap (λ (bytes : List ℕ). writing [] a.out.now a.at bytes) e
    ∙ passed (place_tests a.shape (length a.out.now) a.at ++ more a.shape a.edges.now a.escapes.now) a.out.now a.at (result (as_result a.edges.now a.escapes.now a.steps))
    (pass-append (place_tests a.shape (length a.out.now) a.at) (more a.shape a.edges.now a.escapes.now) (place-passes a.shape (length a.out.now) a.at t.result t.ensures c.in_ok-test_place.was)
    (edges-pass a.shape a.edges.now a.escapes.now c.layer_edges.result c.layer_edges.ensures c.if-edges-layer_edges.false
    (escapes-pass a.shape a.edges.now a.escapes.now c.detectors.result c.detectors.ensures c.if-escapes-detectors.false (told m.result.entries.now a.edges.now m.result.bits m.ensures m.result.measured.bits_are ∙ le-leb _ 1 c.if-first-gt1.false)
    (told n.result.entries.now a.escapes.now n.result.bits n.ensures n.result.measured.bits_are ∙ le-leb _ 1 c.if-second-gt1.false))))
