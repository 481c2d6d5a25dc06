use Rattle.flat.specs.Step.{active_at}
use Rattle.flat.specs.Structs.{plan_in}
use Rattle.growing.specs.Grown.{hits_in, edges_of, Raised}
use Rattle.growing.proofs.grow_way.Given as goal

abbrev pub invariant-loop-i : goal.invariant-loop-i
invariant-loop-i l = Raised (plan_in l.layout) l.layout.sizes.nodes (hits_in (edges_of (plan_in l.layout) (active_at l.initial.lists) l.k) l.i) l.initial.edges l.edges l.count l.q l.initial.lists l.lists l.queued
