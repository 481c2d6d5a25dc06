-- `merge_step::pass` meets its contract. Assumes nothing.
use Rattle.std.proofs.Common.{arith}
use Rattle.std.specs.Prelude.{length}
use Rattle.edge_step.specs.Listed.{list_of}
use Rattle.flat.specs.Structs.{plan_in}
use Rattle.merge_step.specs.LawsPass.{step-done}
use Rattle.merge_step.proofs.pass.Goals as goal

pub returns : goal.returns
returns c =
    let a = c.args in
    let s = a.arrays.now in
    rw (c.lay.ensures.nodes_after, c.lay.ensures.marks_after)
    (step-done (plan_in a.layout.now) s.nodes s.marks s.edges (length a.listed.now) (list_of a.listed.now) a.layout.now.sizes.nodes a.layout.now.safe.nodes
    _ _ _ c.flips-sending.ensures.flipped c.gather-busy.ensures.each (omega arith) (omega arith) _ c.gather-busy.ensures.value)
