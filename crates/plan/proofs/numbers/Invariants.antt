-- `plan::numbers` meets its contract. Assumes nothing.
use Rattle.std.proofs.Common.{◌≡◌, ◌+◌}
use Rattle.plan.specs.Passes.{blocks}
use Rattle.plan.specs.Table.{row_of}
use Rattle.plan.proofs.numbers.Given as goal

abbrev pub invariant-loop-r : goal.invariant-loop-r
invariant-loop-r l = let d = l.fn.shape.distance in l.table ≡ blocks 512 (d + 1) (row_of l.fn.shape.height d) (d + 1) l.r l.initial.table
