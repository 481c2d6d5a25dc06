-- `leave::escape_row` meets its contract: the bytes passed are by the rule. Assumes nothing.
use Rattle.std.proofs.Common.{arith, ◌≡◌, ap, ◌∙◌, ◌+◌, ◌-◌, ◌<◌, length, get_or}
use Rattle.std.proofs.lemmas.List.Edits.{length-between}
use Rattle.std.proofs.Common.{below_more, get_or-set_other, get_or-set_same, ◌≢◌}
use Rattle.window.specs.Lists.{bit}
use Rattle.flat.specs.Codes.{defect_of}
use Rattle.flat.specs.LawsStored.{stored-part}
use Rattle.leave.specs.LawsLeaving.{bit-byte}
use Rattle.leave.proofs.escape_row.Goals as goal

pub loop-i-preserved : goal.loop-i-preserved
loop-i-preserved c =
    let e = c.from.ensures ∙ bit-byte c.defect.result ∙ ap bit c.defect.ensures in
    below_more _ _
    (λ k h. let ne : k ≢ c.loop-i.i = omega arith in rw get_or-set_other (c.loop-i.invariant k h))
    (let lt : c.loop-i.i < length c.loop-i.byte-items = omega (arith, c.loop-i.auto.byte-items, c.loop-i-test.true) in rw get_or-set_same e)

pub returns : goal.returns
returns c =
    let a = c.args in
    let m : a.to + a.n - a.to ≡ a.n = omega arith in
    let long = length-between a.out.now a.to (a.to + a.n) (omega arith) in
    stored-part a.to (λ i. bit (defect_of (get_or a.nodes.now (a.at + i) 0))) 0 a.out.now c.loop-i.byte-items a.n _
    (c.loop-i.auto.byte-items ∙ long ∙ m) m (omega arith)
    (λ i h. c.loop-i.invariant i (omega (arith, c.loop-i-test.false, long, h)))
