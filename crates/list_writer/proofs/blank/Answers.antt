-- `list_writer::blank` meets its contract: a block whose bits together are 0 is a gap. Assumes nothing.
use Rattle.std.proofs.Common.{◌≡◌, sym, ◌∙◌, ap, ℕ, ◌≤◌, ◌-◌, ◌+◌, min, List, length, take, drop, eqb-true, arith}
use Rattle.list_writer.specs.Gaps.{top, Gap}
use Rattle.list_writer.specs.Laws.{gap_block}
use Rattle.list_writer.proofs.blank.Goals as goal

zero-block : (l : List ℕ) (from bits : ℕ) → from + 16 ≤ length l → min bits 2 ≡ min (top (take (from + 16 - from) (drop from l))) 2 → bits ≡ 0 → Gap l from (from + 16)
zero-block l from bits h e z =
    let n : from + 16 - from ≡ 16 = omega arith in
    let t : top (take (from + 16 - from) (drop from l)) ≡ 0 = omega (arith, e, z) in
    gap_block l from 16 h (sym (ap (λ (m : ℕ). top (take m (drop from l))) n) ∙ t)

pub returns : goal.returns
returns c = λ e. zero-block c.args.entries.now c.args.from c.union.result (omega (arith, c.requires, c.if-left-ne0.false)) c.union.ensures (eqb-true c.union.result 0 e)
