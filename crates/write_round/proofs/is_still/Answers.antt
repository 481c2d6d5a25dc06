-- `write_round::is_still` meets its contract. Assumes nothing.
use Rattle.write_round.specs.Left.{blank_of, quiet_of}
use Rattle.write_round.specs.LawsLeft.{after_none, after_next}
use Rattle.write_round.proofs.is_still.Goals as goal

pub loop-kind-init : goal.loop-kind-init
loop-kind-init c = after_none _ _ _ c.is_quiet-none.ensures

pub loop-kind-preserved : goal.loop-kind-preserved
loop-kind-preserved c =
    let z = c.args.layout.now.sizes in
    let a = c.args.arrays.now in
    after_next (blank_of z a.edges) (quiet_of z a.nodes) c.loop-kind.kind c.loop-kind.none _ c.loop-kind.invariant c.is_blank-none.ensures
