use lib.ListN.{get_or}
use Rattle.flat.specs.Codes.{growth_of}
use Rattle.flat.specs.Structs.{plan_in}
use Rattle.queue.specs.Queue.{Opened}
use Rattle.queue.proofs.push_open.Given as goal

abbrev pub invariant-loop-k : goal.invariant-loop-k
invariant-loop-k l = Opened (plan_in l.layout) (λ e. growth_of (get_or l.edges e 0)) l.x l.k l.from l.initial.q l.q l.initial.lists l.lists l.queued
