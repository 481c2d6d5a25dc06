-- `plan::numbers` meets its contract. Assumes nothing.
use mathlib.Core.Path.{refl}
use Rattle.std.proofs.Common.{rules}
use Rattle.std.proofs.iter.Serving.{serving}
use Prim.Native.Nat.{◌+◌, ◌*◌}
use native.Mathlib.Omega.{arith}
use Rattle.plan.specs.Passes.{blocks-none, blocks-next}
use Rattle.plan.specs.Table.{row_of}
use Rattle.plan.specs.Limits.{RowLow, row_low}
use Rattle.plan.proofs.numbers.Goals as goal

pub loop-r-init : goal.loop-r-init
loop-r-init c = let s = c.args.shape in blocks-none 512 (s.distance + 1) (row_of s.height s.distance) (s.distance + 1) 0 c.args.table.now

low : (c : goal.In-loop-r) → RowLow c.args.shape.distance (c.args.shape.height * c.sheets.result) c.loop-r.r c.args.bound c.saturating_sub-inner.result
low c = row_low c.args.shape.height c.args.shape.distance _ c.loop-r.r _ _ c.args.shape.distance c.args.shape.height _ c.requires.distance_value refl c.sheets.ensures refl c.requires.bound_value c.saturating_sub-inner.ensures refl c.loop-r.auto.r-end

pub overflow_mul-high : goal.overflow_mul-high
overflow_mul-high c = omega (arith, (low c).high)

pub overflow_add-high : goal.overflow_add-high
overflow_add-high c = omega (arith, (low c).high, (low c).few)

pub store-requires : goal.store-requires
store-requires c = let R = row_low c.args.shape.height c.args.shape.distance _ c.loop-r.r _ _ c.args.shape.distance c.args.shape.height _ c.requires.distance_value refl c.sheets.ensures refl c.requires.bound_value c.saturating_sub-inner.ensures refl c.loop-r.auto.r-end in
    let entry = R.entry in let low = R.low in let high = R.high in let wide = R.wide in let few = R.few in grind serving

pub loop-r-preserved : goal.loop-r-preserved
loop-r-preserved c = let l = c.loop-r in let s = c.args.shape in
    blocks-next 512 (s.distance + 1) (row_of s.height s.distance) (s.distance + 1) 0 c.args.table.now l.r l.table _ _ (row_of s.height s.distance l.r) refl refl l.invariant
    (c.store.ensures (row_of s.height s.distance l.r) (λ i v m p. search rules))
