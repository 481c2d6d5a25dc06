-- `list_writer::measured` meets its contract: what is counted and what is to come are all. Assumes nothing.
use Rattle.std.proofs.Common.{◌≡◌, ◌∙◌, ap, ℕ, ◌<◌, ◌-◌, ◌+◌, List, [], length, drop, length-append, drop_of_length-le, arith}
use Rattle.number.specs.Number.{written}
use Rattle.list.specs.Sheet.{ones, skips, listed}
use Rattle.list.specs.Laws.{ones-nil, skips-nil, listed-is, length-skips, length-listed}
use Rattle.list_writer.specs.Gaps.{Found, Gap}
use Rattle.list_writer.specs.Laws.{measured-zero, found-ones, found-skips}
use Rattle.list_writer.proofs.measured.Invariants.{Counting}
use Rattle.list_writer.proofs.measured.Goals as goal

all-bytes : (l : List ℕ) → length (listed l) ≡ length (written (ones l)) + length (skips 0 l)
all-bytes l = ap length (listed-is l) ∙ length-append (written (ones l)) (skips 0 l)

module _ (l : List ℕ) (set count from : ℕ) (w : Counting l set count from) where
  turn : (place bytes : ℕ) → Found l from place → place < length l → bytes ≡ length (written (place - from)) → Counting l (set + 1) (count + bytes) (place + 1)
  turn place bytes f h e = (
    omega (arith, w.0, found-ones l from place f h),
    omega (arith, w.1, e, ap length (found-skips l from place f h), length-append (written (place - from)) (skips 0 (drop (place + 1) l))),
    omega (arith, h),
    omega (arith, w.3, f.gap.forward),
  )

  -- no more is set
  module _ (g : Gap l from (length l)) where
    none : drop (length l) l ≡ []
    none = drop_of_length-le l (omega arith)

    all_set : set ≡ ones l
    all_set = omega (arith, w.0, g.counted, ap ones none, ones-nil)

    whole : (bytes : ℕ) → bytes ≡ length (written set) → count + bytes ≡ length (listed l)
    whole bytes e =
        omega (arith, e, w.1, all-bytes l, ap (λ (n : ℕ). length (written n)) all_set, ap length (g.skipped 0 ∙ ap (λ (m : List ℕ). skips (0 + (length l - from)) m) none ∙ skips-nil (0 + (length l - from))))

pub invariant_of-result : goal.invariant_of-result
invariant_of-result c =
    let z = measured-zero c.args.entries.now (omega (arith, c.union-bits.ensures, c.if-bits-eq0.true)) in
    rw c.if-bits-eq0.true (record { measured = z })

pub overflow_add-len : goal.overflow_add-len
overflow_add-len c =
    let l = c.loop-place in
    let t = turn c.args.entries.now l.ones l.len l.from l.invariant c.in-Some.place c.number_len-len.result c.in-Some.ensures.0 c.in-Some.ensures.1 c.number_len-len.ensures in
    omega (arith, t.1, length-skips 0 c.args.entries.now, c.well_formed)

pub loop-place-preserved : goal.loop-place-preserved
loop-place-preserved c =
    let l = c.loop-place in
    turn c.args.entries.now l.ones l.len l.from l.invariant c.in-Some.place c.number_len-len.result c.in-Some.ensures.0 c.in-Some.ensures.1 c.number_len-len.ensures

pub overflow_add-len-2 : goal.overflow_add-len-2
overflow_add-len-2 c =
    let l = c.loop-place in
    omega (arith, whole c.args.entries.now l.ones l.len l.from l.invariant c.in_default.ensures c.number_len-len-2.result c.number_len-len-2.ensures, (length-listed c.args.entries.now).1, c.well_formed)

pub invariant_of-result-2 : goal.invariant_of-result-2
invariant_of-result-2 c =
    let l = c.loop-place in
    let a = c.args in
    record {
      measured = record {
        bits_are = c.union-bits.ensures;
        count-is = all_set a.entries.now l.ones l.len l.from l.invariant c.in_default.ensures;
        bytes-are = whole a.entries.now l.ones l.len l.from l.invariant c.in_default.ensures c.number_len-len-2.result c.number_len-len-2.ensures;
      };
    }
