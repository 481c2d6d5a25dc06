-- `number::put_number` meets its contract: the groups so far stand in the buffer, and those of what is left are still to come.
-- Assumes nothing.
use Rattle.std.proofs.Common.{◌≡◌, refl, sym, ◌∙◌, ap, ℕ, ◌≤◌, ◌<◌, ◌+◌, ◌-◌, ◌/◌, ◌%◌, Bool, true, false, List, [], ◌∷◌, length, drop, set, arith, length-drop, Some, ltb, ltb-true, ltb-false}
use Rattle.refusal.specs.Writing.{front, put_to}
use Rattle.refusal.specs.Filling.{filled, filled_more, filled-all, drop_more, length-filled, front_fits, front-full}
use Rattle.number.specs.Number.{written}
use Rattle.number.specs.Laws.{written_one, written-more, length-written}
use Rattle.number.proofs.put_number.Goals as goal

-- what has one group is below 128, and what has more is not
groups-tell : (n : ℕ) (A : Type 0) → (n < 128 → length (written n) ≡ 1 → A) → (128 ≤ n → 1 < length (written n) → A) → A
groups-tell n A one more = go (ltb n 128) refl
  where
    go : (b : Bool) → ltb n 128 ≡ b → A
    go true e = let h = ltb-true n 128 e in one h (ap length (written_one n h))
    go false e = let h = ltb-false n 128 e in more h (omega (arith, ap length (written-more n h), (length-written (n / 128)).0))

module _ (n : ℕ) (old out : List ℕ) (rest i count : ℕ) (is : count ≡ length (written n)) (room : count ≤ length old)
    (w : (out ≡ filled (written n) old i) × (drop i (written n) ≡ written rest)) (l : i ≤ count - 1) where
  left : i + length (written rest) ≡ count
  left = omega (arith, ap length w.1, length-drop i (written n), is, l, (length-written n).0)

  same : length out ≡ length old
  same = ap length w.0 ∙ length-filled (written n) old i (omega (arith, is, l)) (omega (arith, l, room))

  turns : i < count - 1 → (set out i (rest % 128 + 128) ≡ filled (written n) old (i + 1)) × (drop (i + 1) (written n) ≡ written (rest / 128))
  turns k =
      groups-tell rest _ (λ h e. absurd (omega (arith, left, e, k)))
      (λ h e. let f : drop i (written n) ≡ (rest % 128 + 128) ∷ written (rest / 128) = w.1 ∙ written-more rest h in (
        ap (λ (l : List ℕ). set l i (rest % 128 + 128)) w.0 ∙ filled_more (written n) old i (rest % 128 + 128) (written (rest / 128)) (omega (arith, is, k)) (omega (arith, k, room)) f,
        drop_more (written n) i (rest % 128 + 128) (written (rest / 128)) f,
      ))

  module _ (e : count - 1 ≤ i) where
    small : rest < 128
    small = groups-tell rest _ (λ h f. h) (λ h f. absurd (omega (arith, left, f, e)))

    ends : put_to (Some count) (set out (count - 1) rest) ≡ front old (written n)
    ends =
        let at : count - 1 ≡ i = omega (arith, l, e) in
        let f : drop i (written n) ≡ rest ∷ [] = w.1 ∙ written_one rest small in
        let all : i + 1 ≡ length (written n) = omega (arith, is, l, e, (length-written n).0) in
        let put : set out i rest ≡ filled (written n) old (i + 1) =
        ap (λ (l : List ℕ). set l i rest) w.0 ∙ filled_more (written n) old i rest [] (omega (arith, all)) (omega (arith, all, is, room)) f in
        rw (at, put, all, is, filled-all (written n) old) (sym (front_fits old (written n) (omega (arith, is, room))))

pub returns-then-out-count : goal.returns-then-out-count
returns-then-out-count c = sym (front-full c.args.out.now (written c.args.n) (omega (arith, c.number_len-count.ensures, c.if-out-count.true)))

pub overflow_sub-last : goal.overflow_sub-last
overflow_sub-last c = omega (arith, c.number_len-count.ensures, (length-written c.args.n).0)

pub loop-i-init : goal.loop-i-init
loop-i-init c = (refl, refl)

pub loop-i-preserved : goal.loop-i-preserved
loop-i-preserved c =
    let l = c.loop-i in
    let a = c.args in
    turns a.n a.out.now l.out l.rest l.i c.number_len-count.result c.number_len-count.ensures c.if-out-count.false l.invariant (omega (arith, c.loop-i-test.true)) (omega (arith, c.loop-i-test.true))

pub overflow_cast-out-2 : goal.overflow_cast-out-2
overflow_cast-out-2 c =
    let l = c.loop-i in
    let a = c.args in
    let s = small a.n a.out.now l.out l.rest l.i c.number_len-count.result c.number_len-count.ensures c.if-out-count.false l.invariant (omega (arith, l.auto.i-end)) (omega (arith, c.loop-i-test.false)) in omega (arith, s)

pub bounds-out-last : goal.bounds-out-last
bounds-out-last c =
    let l = c.loop-i in
    let a = c.args in
    let s = same a.n a.out.now l.out l.rest l.i c.number_len-count.result c.number_len-count.ensures c.if-out-count.false l.invariant (omega (arith, l.auto.i-end)) in omega (arith, s, c.number_len-count.ensures, (length-written a.n).0, c.if-out-count.false)

pub returns : goal.returns
returns c =
    let l = c.loop-i in
    let a = c.args in
    ends a.n a.out.now l.out l.rest l.i c.number_len-count.result c.number_len-count.ensures c.if-out-count.false l.invariant (omega (arith, l.auto.i-end)) (omega (arith, c.loop-i-test.false))
