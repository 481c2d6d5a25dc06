-- `sinking::sink` meets its contract: the entries passed are by the rule. Assumes nothing.
use Rattle.std.proofs.Common.{arith, ◌≡◌, ◌∙◌, ◌+◌, ◌-◌, get_or}
use Rattle.std.proofs.lemmas.List.Edits.{length-between}
use Rattle.flat.specs.LawsStored.{stored-part}
use Rattle.sinking.proofs.sink.Goals as goal

pub returns : goal.returns
returns g c =
    let z = c.args.z in
    let down = 512 + z.sheet in
    let n = z.nodes - z.sheet in
    let r = c.staying-rest.result in
    let m : down + r - down ≡ n = omega (arith, c.staying-rest.ensures) in
    let long = length-between c.args.new.now down (down + r) (omega (arith, c.staying-rest.ensures)) in
    λ f p d. stored-part down (λ i. f (get_or c.args.old.now (512 + i) d)) d c.args.new.now c.loop-i.entry-items n _
    (c.loop-i.auto.entry-items ∙ long ∙ m) m (omega arith)
    (λ i h. p _ _ (c.loop-i.invariant d i (omega (arith, c.loop-i-test.false, long, h, c.staying-rest.ensures))))
