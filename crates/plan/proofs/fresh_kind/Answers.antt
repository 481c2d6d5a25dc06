-- `plan::fresh_kind` meets its contract. Assumes nothing.
use Rattle.std.proofs.Common.{rules}
use mathlib.Core.Path.{refl}
use Prim.Native.Nat.{◌+◌, ◌*◌}
use Rattle.plan.specs.Passes.{blocks-none, blocks-next}
use Rattle.plan.specs.Table.{fresh_in}
use Rattle.plan.proofs.fresh_kind.Goals as goal

pub loop-r-init : goal.loop-r-init
loop-r-init c = let w = c.args.shape.distance + 1 in blocks-none (4608 + 240 * c.args.kind) w (fresh_in c.of-area.result) w 0 c.args.table.now

pub loop-r-preserved : goal.loop-r-preserved
loop-r-preserved c = let l = c.loop-r in let w = c.args.shape.distance + 1 in let row = fresh_in c.of-area.result in
    blocks-next (4608 + 240 * c.args.kind) w row w 0 c.args.table.now l.r-counter l.table _ _ (row l.r-counter) refl refl l.invariant (c.store.ensures (row l.r-counter) (λ i v m p. search rules))
