-- `round_step::fall` meets its contract. Assumes nothing.
use Rattle.std.specs.Prelude.{length, ◌≡◌}
use Rattle.std.proofs.Common.{rules, ◌∙◌}
use Rattle.flat.specs.Entries.{planes}
use Rattle.round_step.proofs.Entries.{sinks}
use Rattle.round_step.proofs.fall.Goals as goal

pub returns : goal.returns
returns c =
    let l = c.args.laid.now in
    let old = c.args.old.now in
    let E : length c.args.new.now.edges ≡ planes = search rules in
    record {
      long = record { of-nodes = c.fall_nodes.ensures.long; of-marks = c.fall_marks.ensures.long; of-edges = c.sink_kinds.ensures.long ∙ E };
      sinks =
          sinks _ l.shape.height l.shape.distance l.range l.layout.sizes l.sizes l.layout.table l.filled c.args.second c.args.bytes.now old.nodes old.marks old.edges c.fall_nodes.new.nodes c.fall_marks.new.marks c.args.new.now.edges c.sink_kinds.new.edges
          c.fall_nodes.ensures c.fall_marks.ensures c.sink_kinds.ensures c.requires.none_above c.requires.none_outside;
    }
