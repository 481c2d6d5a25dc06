-- `edge_step::gather_turns` meets its contract. Assumes nothing.
use Rattle.std.proofs.Common.{arith, sym, ◌∙◌}
use Rattle.std.specs.Prelude.{[]}
use Rattle.flat.specs.Entries.{state_of}
use Rattle.edge_step.specs.Listed.{list_of}
use Rattle.flat.specs.Structs.{plan_in}
use Rattle.edge_step.specs.LawsEdges.{turns-none, turns-past, turns_next}
use Rattle.edge_step.proofs.gather_turns.Goals as goal
use Rattle.edge_step.proofs.gather_turns.Goals.{then-sends, else-sends}

pub loop-x-init : goal.loop-x-init
loop-x-init c = turns-none _ _ _ _ c.told-words

pub loop-x-preserved : goal.loop-x-preserved
loop-x-preserved c =
    let a = c.args in
    let l = c.loop-x in
    elim c.if-sends.branch [
      | then-sends w ↦ rw (w.words-is, w.made-is) (turns_next (plan_in a.layout.now) (state_of a.nodes.now [] a.edges.now) (list_of a.listed.now) l.x-index l.made l.words l.invariant _ (omega arith) (sym c.sends.ensures ∙ w.if-sends.true) w.turn_along.ensures)
      | else-sends w ↦ rw (w.words-is, w.made-is) (turns-past (plan_in a.layout.now) (state_of a.nodes.now [] a.edges.now) (list_of a.listed.now) l.x-index l.made l.words l.invariant (sym c.sends.ensures ∙ w.if-sends.false))
    ]
