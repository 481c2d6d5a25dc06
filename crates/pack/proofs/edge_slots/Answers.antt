-- `pack::edge_slots` meets its contract. Assumes nothing.
use Rattle.std.proofs.Common.{rules}
use Rattle.std.proofs.iter.Serving.{serving}
use Prim.Native.Nat.{◌≤◌, ◌<◌, ◌+◌, ◌*◌}
use native.Mathlib.Omega.{arith}
use native.Mathlib.Nat.{mul-le-mul_left}
use Rattle.pack.specs.Packed.{kind-first, kind-next, slots-low}
use Rattle.steps.proofs.Models.{few-kinds}
use lib.ListN.{get_or}
use Rattle.flat.specs.Codes.{growth_of, correction_of}
use Rattle.shows.specs.Shows.{shown}
use Rattle.pack.proofs.edge_slots.Goals as goal

pub loop-kind-init : goal.loop-kind-init
loop-kind-init c = let a = c.args in
    (kind-first (λ x. shown (growth_of (get_or a.edges.now x 0))) a.n 0 a.growth.now, kind-first (λ x. correction_of (get_or a.edges.now x 0)) a.n 0 a.correction.now)

pub store-requires : goal.store-requires
store-requires c = let t : c.loop-kind.kind < 6 = omega (arith, c.loop-kind-test.true, c.kinds-kind-end.ensures, few-kinds c.args.model) in
    let s = slots-low c.args.n c.loop-kind.kind c.requires t in grind serving

pub store-requires-in-loop-kind : goal.store-requires-in-loop-kind
store-requires-in-loop-kind c = let t : c.loop-kind.kind < 6 = omega (arith, c.loop-kind-test.true, c.kinds-kind-end.ensures, few-kinds c.args.model) in
    let s = slots-low c.args.n c.loop-kind.kind c.requires t in grind serving

pub loop-kind-preserved : goal.loop-kind-preserved
loop-kind-preserved c = let l = c.loop-kind in let a = c.args in
    let t : l.kind < 6 = omega (arith, c.loop-kind-test.true, c.kinds-kind-end.ensures, few-kinds a.model) in
    let u : l.kind + 1 ≤ 6 = omega (arith, t) in let s = mul-le-mul_left a.n u in (
      kind-next (λ x. shown (growth_of (get_or a.edges.now x 0))) a.n l.kind a.growth.now l.growth _ (omega (arith, s, c.told-growth, c.requires)) l.invariant.0 (c.store.ensures (λ i. shown (growth_of (get_or a.edges.now (l.kind * 4608 + 512 + i) 0))) (λ i v m p. search rules)),
      kind-next (λ x. correction_of (get_or a.edges.now x 0)) a.n l.kind a.correction.now l.correction _ (omega (arith, s, c.told-correction, c.requires)) l.invariant.1 (c.store-in-loop-kind.ensures (λ i. correction_of (get_or a.edges.now (l.kind * 4608 + 512 + i) 0)) (λ i v m p. search rules)),
    )
