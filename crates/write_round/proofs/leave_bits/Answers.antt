-- `write_round::leave_bits` meets its contract. Assumes nothing.
use Rattle.std.proofs.Common.{arith}
use Rattle.write_round.specs.LawsLeft.{place-low}
use Rattle.write_round.proofs.leave_bits.Goals as goal

pub commit-requires-clause-by_index : goal.commit-requires-clause-by_index
commit-requires-clause-by_index c =
    let l = c.args.laid.now in
    let s = l.shape in
    λ i h. place-low s.model s.height s.distance l.range l.layout.sizes l.sizes l.layout.table l.filled i (omega (arith, c.requires.out_edges_len, h))
