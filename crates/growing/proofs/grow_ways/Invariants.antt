use Rattle.flat.specs.Step.{active_at}
use Rattle.flat.specs.Structs.{plan_in}
use Rattle.growing.specs.Grown.{hits_of, Raised}
use Rattle.growing.proofs.grow_ways.Given as goal

abbrev pub invariant-loop-k : goal.invariant-loop-k
invariant-loop-k l = Raised (plan_in l.layout) l.layout.sizes.nodes (hits_of (plan_in l.layout) (active_at l.initial.lists) l.listed l.k) l.initial.edges l.edges 0 l.q l.initial.lists l.lists l.queued
