-- `sinking::sink_edges` meets its contract: the entries passed are those one sheet above. Assumes nothing.
use Rattle.std.proofs.Common.{arith, ◌≡◌, ◌∙◌, ◌+◌, ◌-◌, get_or}
use Rattle.std.proofs.lemmas.List.Edits.{length-between}
use Rattle.flat.specs.LawsStored.{stored-part}
use Rattle.sinking.proofs.sink_edges.Goals as goal

pub returns : goal.returns
returns c =
    let at = c.args.first + 512 in
    let down = at + c.args.z.sheet in
    let n = c.args.z.nodes - c.args.z.sheet in
    let r = c.staying-rest.result in
    let m : down + r - down ≡ n = omega (arith, c.staying-rest.ensures) in
    let long = length-between c.args.edges.now down (down + r) (omega (arith, c.staying-rest.ensures)) in
    stored-part down (λ i. get_or c.args.old.now (at + i) 0) 0 c.args.edges.now c.loop-i.edge-items n _
    (c.loop-i.auto.edge-items ∙ long ∙ m) m (omega arith)
    (λ i h. c.loop-i.invariant i (omega (arith, c.loop-i-test.false, long, h, c.staying-rest.ensures)))
