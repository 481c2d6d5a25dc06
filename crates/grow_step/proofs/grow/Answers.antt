-- `grow_step::grow` meets its contract. Assumes nothing.
use Rattle.std.proofs.Common.{rules}
use Rattle.flat.specs.Entries.{Long}
use Rattle.grow_step.proofs.Entries.{leads, none-falls, long, openings, grows}
use Rattle.grow_step.proofs.grow.Goals as goal

pub grow_ways-count-requires-clause-leads : goal.grow_ways-count-requires-clause-leads
grow_ways-count-requires-clause-leads c = leads _ _ _ _ c.requires.standing

pub cut-requires-clause-table_value : goal.cut-requires-clause-table_value
cut-requires-clause-table_value c = none-falls _ _ _ _ c.requires.standing

pub returns : goal.returns
returns c =
    let l = c.args.layout.now in
    let a = c.args.arrays.now in
    let L : Long a.nodes a.marks a.edges = record { of-nodes = search rules; of-marks = search rules; of-edges = search rules } in
    record {
      long = long l.sizes l.table l.safe a.nodes a.marks a.edges _ _ L c.cut.ensures.nodes_after c.cut.ensures.marks_after _ c.grow_ways-count.ensures.long;
      grows = grows l.sizes l.table l.safe a.nodes a.marks a.edges L c.requires.standing _ _ _ c.list_active-listed.ensures _ _ _ _ c.grow_ways-count.ensures _ _ c.cut.ensures.nodes_after c.cut.ensures.marks_after;
      openings = openings l.sizes l.table l.safe a.nodes a.marks a.edges L c.requires.standing _ _ _ c.list_active-listed.ensures _ _ _ _ c.grow_ways-count.ensures c.cut.new.nodes c.cut.new.marks;
      words = search rules;
    }
