-- `write_round::leave_round` meets its contract. Assumes nothing.
use Rattle.std.proofs.Common.{refl, ◌∙◌}
use Rattle.write_round.specs.LawsLeft.{committed-is, escaped-is}
use Rattle.write_round.proofs.leave_round.Goals as goal

pub returns : goal.returns
returns c =
    let l = c.args.laid.now in
    let a = c.args.arrays.now in
    let s = l.shape in record {
      out_edges_after = λ w e marks H. c.leave_bits.ensures.out_edges_after ∙ committed-is s.model _ _ l.range l.layout.sizes l.sizes l.layout.table l.filled a.nodes a.edges s refl refl w e marks H;
      out_escapes_after = λ w e marks H. c.leave_bits.ensures.out_escapes_after ∙ escaped-is s.model _ _ l.range l.layout.sizes l.sizes l.layout.table l.filled a.nodes a.edges s refl refl w e marks H;
    }
