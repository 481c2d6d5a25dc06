-- `input::write_round` meets its contract: the tail of the buffer takes the list, or has no room for it. Assumes nothing.
use mathlib.Core.Path.{◌≡◌, sym, ◌∙◌}
use mathlib.Core.Bool.{Bool, true}
use mathlib.Core.List.{List, [], ◌∷◌}
use Prim.Native.Nat.{ℕ}
use native.Mathlib.Omega.{arith}
use borrow.Author.Tests.{eq-eqb}
use lib.ListN.{length}
use Rattle.refusal.specs.Tests.{Passes, pass-none, pass-one}
use Rattle.refusal.specs.declared.Refusal.TheVariants.{Room}
use Rattle.refusal.specs.Tails.{put_none, put_some}
use Rattle.std.proofs.Common.{rules, Err}
use Rattle.list.specs.Sheet.{listed, are_bits}
use Rattle.shape.specs.Sizes.{detectors_of}
use Rattle.shape.specs.declared.Shape.{Shape}
use Rattle.record.specs.Calls.{defects_test}
use Rattle.record.proofs.Places.{writer-full, writer-inside, writer-done}
use Rattle.input.proofs.write_round.Goals as goal

abbrev more : Shape → List ℕ → List (Bool × ℕ)
more sh defects = defects_test sh defects ∷ (are_bits defects, 4) ∷ []

module _ (sh : Shape) (defects : List ℕ) (n : ℕ) (e : n ≡ detectors_of sh.height sh.distance) (h : length defects ≡ n) where
  right : (defects_test sh defects).0 ≡ true
  right = eq-eqb (length defects) (detectors_of sh.height sh.distance) (h ∙ e)

  passes : are_bits defects ≡ true → Passes (more sh defects)
  passes k = pass-one (defects_test sh defects).0 3 ((are_bits defects, 4) ∷ []) right (pass-one (are_bits defects) 4 [] k pass-none)

pub returns-in_err-count : goal.returns-in_err-count
returns-in_err-count c =
    let a = c.args in
    let t = c.test_place in
    let p = c.put_list in
    let e : c.from_residual-in_err-count.result ≡ Err Room = search rules in
    rw e (writer-full a.shape a.out.now a.at t.result t.ensures (more a.shape a.defects.now) (listed a.defects.now) c.in_ok-test_place.was
    (passes a.shape a.defects.now c.detectors.result c.detectors.ensures c.if-defects-detectors.false (sym c.are_bits.ensures ∙ c.if-not-are_bits.false))
    p.result p.new.out p.ensures (put_none p.result _ _ (sym c.ok_or.ensures.value ∙ c.in_err-count.was)))

pub overflow_add-result : goal.overflow_add-result
overflow_add-result c =
    let a = c.args in
    let t = c.test_place in
    let p = c.put_list in
    let h =
    writer-inside a.shape a.out.now a.at t.result t.ensures (more a.shape a.defects.now) (listed a.defects.now) c.in_ok-test_place.was
    (passes a.shape a.defects.now c.detectors.result c.detectors.ensures c.if-defects-detectors.false (sym c.are_bits.ensures ∙ c.if-not-are_bits.false))
    p.result p.new.out p.ensures c.in_ok-count.count (put_some p.result _ _ (sym c.ok_or.ensures.value ∙ c.in_ok-count.was)) in
    omega (arith, h, c.well_formed)

pub returns : goal.returns
returns c =
    let a = c.args in
    let t = c.test_place in
    let p = c.put_list in
    writer-done a.shape a.out.now a.at t.result t.ensures (more a.shape a.defects.now) (listed a.defects.now) c.in_ok-test_place.was
    (passes a.shape a.defects.now c.detectors.result c.detectors.ensures c.if-defects-detectors.false (sym c.are_bits.ensures ∙ c.if-not-are_bits.false))
    p.result p.new.out p.ensures c.in_ok-count.count (put_some p.result _ _ (sym c.ok_or.ensures.value ∙ c.in_ok-count.was))
