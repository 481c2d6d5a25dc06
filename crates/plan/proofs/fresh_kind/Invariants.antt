-- `plan::fresh_kind` meets its contract. Assumes nothing.
use Rattle.std.proofs.Common.{◌≡◌, ◌+◌, ◌*◌}
use Rattle.plan.specs.Passes.{blocks}
use Rattle.plan.specs.Table.{fresh_in}
use Rattle.plan.proofs.fresh_kind.Given as goal

abbrev pub invariant-loop-r : goal.invariant-loop-r
invariant-loop-r l = l.table ≡ blocks (4608 + 240 * l.kind) l.w (fresh_in l.area) l.w l.r-counter l.initial.table
