-- What a layout and a window's arrays mean. Assumes nothing.
use Rattle.flat.specs.Entries.{State, state_of}
use Rattle.flat.specs.Plan.{Plan, plan_of}
use Rattle.flat.specs.declared.layout.Layout.{Layout}
use Rattle.flat.specs.declared.arrays.Arrays.{Arrays}

abbrev pub plan_in : Layout → Plan
plan_in l = plan_of l.sizes l.table

abbrev pub state_in : Arrays → State
state_in a = state_of a.nodes a.marks a.edges
