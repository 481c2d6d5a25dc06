-- `merge_step::gather` meets its contract. Assumes nothing.
use Rattle.std.specs.Prelude.{◌≡◌}
use Rattle.flat.specs.Step.{busy_in}
use Rattle.flat.specs.Structs.{plan_in, state_in}
use Rattle.node_step.specs.After.{Tells}
use Rattle.edge_step.specs.Each.{Each}
use Rattle.edge_step.specs.Listed.{list_of}
use Rattle.merge_step.proofs.gather.Given as goal

abbrev pub invariant-loop-i : goal.invariant-loop-i
invariant-loop-i l =
    Each (λ j. Tells (plan_in l.layout) (state_in l.arrays) l.sending (list_of l.listed j)) l.i l.words
    × (l.busy ≡ busy_in (plan_in l.layout) (state_in l.arrays) l.i (list_of l.listed))
