use Rattle.std.proofs.Common.{eqb, get_or, ◌+◌}
use Rattle.flat.specs.Codes.{growth_of}
use Rattle.flat.specs.Structs.{plan_in}
use Rattle.enlist.specs.Enlisted.{Spread}
use Rattle.enlist.proofs.push_reset.Given as goal

abbrev pub invariant-loop-i : goal.invariant-loop-i
invariant-loop-i l = Spread (plan_in l.layout) (λ e. growth_of (get_or l.edges e 0)) l.layout.sizes.nodes l.count l.initial.lists (λ j. eqb (get_or l.marks (l.at + j) 0) 65535) (λ j. l.at + j) l.i l.q l.lists l.queued
