-- `plan::places_kind` meets its contract. Assumes nothing.
use Rattle.std.proofs.Common.{rules}
use Rattle.std.proofs.iter.Serving.{serving}
use mathlib.Core.Path.{◌≡◌, refl}
use mathlib.Core.Bool.{true}
use Prim.Native.Nat.{ℕ, ◌+◌, ◌-◌, ◌*◌}
use native.Mathlib.Omega.{arith}
use Rattle.shape.specs.Sizes.{in_range}
use Rattle.shape.specs.declared.Shape.{Shape}
use Rattle.plan.specs.Passes.{blocks-none, blocks-next}
use Rattle.plan.specs.Loops.{PlacesLow, places-low}
use Rattle.plan.specs.Limits.{roomy-model, small-named}
use Rattle.plan.specs.Table.{area_of}
use Rattle.plan.specs.declared.Area.{Area}
use Rattle.steps.specs.Models.{of_model}
use Rattle.layers.specs.Boxes.{named}
use Rattle.plan.proofs.places_kind.Goals as goal

low : (sh : Shape) (kind : ℕ) (a : Area) (m n : ℕ) → in_range sh.height sh.distance ≡ true → a ≡ area_of sh.height sh.distance (named (of_model sh.model) kind) → n ≡ a.right - a.left → m ≡ a.bottom - a.top → PlacesLow a.top a.left m n (sh.distance + 1)
low sh kind a m n ok ea en em =
    places-low sh.height sh.distance (named (of_model sh.model) kind) ok (small-named (of_model sh.model) (roomy-model sh.model) kind) a m n sh.distance ea en em refl

pub overflow_mul-corner-2 : goal.overflow_mul-corner-2
overflow_mul-corner-2 c = let L = low c.args.shape c.args.kind _ _ _ c.requires.distance_value c.of-area.ensures c.columns-n.ensures c.rows-m.ensures in omega (arith, L.first)

pub overflow_add-corner-2 : goal.overflow_add-corner-2
overflow_add-corner-2 c = let L = low c.args.shape c.args.kind _ _ _ c.requires.distance_value c.of-area.ensures c.columns-n.ensures c.rows-m.ensures in omega (arith, L.first, c.requires.kind_bound)

pub overflow_add-corner-3 : goal.overflow_add-corner-3
overflow_add-corner-3 c = let L = low c.args.shape c.args.kind _ _ _ c.requires.distance_value c.of-area.ensures c.columns-n.ensures c.rows-m.ensures in omega (arith, L.first, L.left-low, c.requires.kind_bound)

pub loop-i-init : goal.loop-i-init
loop-i-init c = let w = c.args.shape.distance + 1 in
    blocks-none c.args.start c.columns-n.result (λ r i. 4608 * c.args.kind + c.args.bottom + c.of-area.result.top * w + c.of-area.result.left + r * w + i) c.columns-n.result 0 c.args.table.now

pub overflow_add-from : goal.overflow_add-from
overflow_add-from c = let L = low c.args.shape c.args.kind _ _ _ c.requires.distance_value c.of-area.ensures c.columns-n.ensures c.rows-m.ensures in
    omega (arith, L.rows c.loop-i.i c.loop-i.auto.i-end, L.first, L.left-low, c.requires.kind_bound)

pub store-requires : goal.store-requires
store-requires c = let L = low c.args.shape c.args.kind _ _ _ c.requires.distance_value c.of-area.ensures c.columns-n.ensures c.rows-m.ensures in
    let edges = L.edges c.loop-i.i c.loop-i-test.true in let from = L.rows c.loop-i.i c.loop-i.auto.i-end in let few = L.few in let first = L.first in let left = L.left-low in grind serving

pub loop-i-preserved : goal.loop-i-preserved
loop-i-preserved c = let l = c.loop-i in let n = c.columns-n.result in let w = c.args.shape.distance + 1 in
    let row = λ (r i : ℕ). 4608 * c.args.kind + c.args.bottom + c.of-area.result.top * w + c.of-area.result.left + r * w + i in
    blocks-next c.args.start n row n 0 c.args.table.now l.i l.table _ _ (row l.i) refl refl l.invariant (c.store.ensures (row l.i) (λ i v m p. search rules))
