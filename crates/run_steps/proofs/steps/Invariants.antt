-- `run_steps::steps` meets its contract: between two steps some window is shown whose steps left give the whole. Assumes nothing.
use Rattle.flat.specs.Step.{list_at}
use Rattle.flat.specs.Structs.{plan_in, state_in}
use Rattle.run_steps.specs.Going.{Middle}
use Rattle.run_steps.proofs.steps.Given as goal

abbrev pub invariant-loop-made : goal.invariant-loop-made
invariant-loop-made l =
    Middle (plan_in l.layout) l.layout.sizes.nodes l.budget (state_in l.initial.arrays) l.rides l.listed (list_at l.initial.work.lists 0) l.made l.from l.count
    l.arrays.nodes l.arrays.marks l.arrays.edges l.work.words l.work.lists l.work.queued
