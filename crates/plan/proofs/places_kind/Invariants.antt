-- `plan::places_kind` meets its contract. Assumes nothing.
use Rattle.std.proofs.Common.{◌≡◌, ◌+◌, ◌*◌}
use Rattle.plan.specs.Passes.{blocks}
use Rattle.plan.proofs.places_kind.Given as goal

abbrev pub invariant-loop-i : goal.invariant-loop-i
invariant-loop-i l = l.table ≡ blocks l.start l.n (λ r c. l.corner + r * l.w + c) l.n l.i l.initial.table
