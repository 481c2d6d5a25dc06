-- `edge_step::gather_turns` meets its contract. Assumes nothing.
use Rattle.std.specs.Prelude.{[]}
use Rattle.flat.specs.Entries.{state_of}
use Rattle.edge_step.specs.Listed.{list_of}
use Rattle.flat.specs.Structs.{plan_in}
use Rattle.edge_step.specs.Edges.{Turns}
use Rattle.edge_step.proofs.gather_turns.Given as goal

abbrev pub invariant-loop-x : goal.invariant-loop-x
invariant-loop-x l = Turns (plan_in l.layout) (state_of l.nodes [] l.edges) (list_of l.listed) l.x-index l.made l.words
