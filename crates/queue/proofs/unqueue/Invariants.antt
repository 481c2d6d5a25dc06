use mathlib.Core.Path.{◌≡◌}
use mathlib.Core.Bool.{false}
use Rattle.flat.specs.Laid.{laid}
use Rattle.flat.specs.Step.{list_at}
use Rattle.queue.proofs.unqueue.Given as goal

abbrev pub invariant-loop-x : goal.invariant-loop-x
invariant-loop-x l = l.queued ≡ laid (list_at l.lists l.from) (λ j. false) l.x-index l.initial.queued
