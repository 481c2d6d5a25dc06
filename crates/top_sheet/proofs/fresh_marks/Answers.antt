-- `top_sheet::fresh_marks` meets its contract. Assumes nothing.
use Rattle.std.proofs.Common.{arith, ◌≡◌, ◌∙◌, ◌+◌, ◌-◌, get_or}
use Rattle.std.proofs.lemmas.List.Edits.{length-between}
use Rattle.flat.specs.LawsStored.{stored-part}
use Rattle.top_sheet.proofs.fresh_marks.Goals as goal

pub returns : goal.returns
returns c =
    let n = c.args.z.sheet in
    let m : 512 + n - 512 ≡ n = omega arith in
    let long = length-between c.args.marks.now 512 (512 + n) (omega arith) in
    stored-part 512 (λ i. get_or c.args.table.now (512 + i) 0) 0 c.args.marks.now c.loop-i.mark-items n _
    (c.loop-i.auto.mark-items ∙ long ∙ m) m (omega arith)
    (λ i h. c.loop-i.invariant i (omega (arith, c.loop-i-test.false, long, h)))
