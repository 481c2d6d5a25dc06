-- `top_sheet::lay_edges` meets its contract: the edges passed are by the table. Assumes nothing.
use Rattle.std.proofs.Common.{arith, ◌≡◌, ◌∙◌, ◌+◌, ◌-◌, ◌%◌, get_or}
use Rattle.std.proofs.lemmas.List.Edits.{length-between}
use Rattle.flat.specs.LawsStored.{stored-part}
use Rattle.top_sheet.proofs.lay_edges.Goals as goal

pub returns : goal.returns
returns c =
    let a = c.args in
    let m : a.at + a.n - a.at ≡ a.n = omega arith in
    let long = length-between a.edges.now a.at (a.at + a.n) (omega arith) in
    stored-part a.at (λ i. get_or a.table.now (a.from + i) 0 % 4) 0 a.edges.now c.loop-i.edge-items a.n _
    (c.loop-i.auto.edge-items ∙ long ∙ m) m (omega arith)
    (λ i h. c.loop-i.invariant i (omega (arith, c.loop-i-test.false, long, h)))
