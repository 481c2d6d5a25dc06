-- `merge_step::lay` meets its contract. Assumes nothing.
use Rattle.std.specs.Prelude.{◌≡◌, get_or}
use Rattle.flat.specs.Laid.{laid}
use Rattle.edge_step.specs.Listed.{list_of}
use Rattle.node_step.specs.Words.{mark_in, node_in}
use Rattle.merge_step.proofs.lay.Given as goal

abbrev pub invariant-loop-i : goal.invariant-loop-i
invariant-loop-i l =
    (l.nodes ≡ laid (list_of l.listed) (λ j. node_in (get_or l.words j 0)) l.i l.initial.nodes)
    × (l.marks ≡ laid (list_of l.listed) (λ j. mark_in (get_or l.words j 0)) l.i l.initial.marks)
