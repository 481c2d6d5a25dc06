-- `write_round::write_lists` meets its contract. Assumes nothing.
use Rattle.shape.specs.Sizes.{layer_edges_of}
use Rattle.write_round.specs.LawsLeft.{committed-bits, escaped-bits}
use Rattle.write_round.proofs.write_lists.Goals as goal

pub put_round-requires-clause-edges_value : goal.put_round-requires-clause-edges_value
put_round-requires-clause-edges_value c =
    let l = c.args.laid.now in
    let s = l.shape in
    (committed-bits l.layout.table c.args.arrays.now.edges (layer_edges_of s.model s.height s.distance) _ c.leave_bits.ensures.out_edges_after).bits

pub put_round-requires-clause-escapes_value : goal.put_round-requires-clause-escapes_value
put_round-requires-clause-escapes_value c =
    let l = c.args.laid.now in
    let s = l.shape in
    (escaped-bits l.layout.sizes s.height s.distance c.args.arrays.now.nodes _ c.leave_bits.ensures.out_escapes_after).bits
