-- `edge_step::lay_turns` meets its contract. Assumes nothing.
use Rattle.std.specs.Prelude.{◌≡◌}
use Rattle.flat.specs.Laid.{laid}
use Rattle.edge_step.specs.Edges.{edge_in, number_in}
use Rattle.edge_step.specs.Listed.{list_of}
use Rattle.edge_step.proofs.lay_turns.Given as goal

abbrev pub invariant-loop-w : goal.invariant-loop-w
invariant-loop-w l = l.edges ≡ laid (λ j. edge_in (list_of l.turns j)) (λ j. number_in (list_of l.turns j)) l.w-index l.initial.edges
