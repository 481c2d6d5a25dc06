-- `unpack::edges_kind` meets its contract. Assumes nothing.
use Rattle.std.proofs.Common.{rules}
use mathlib.Core.Path.{refl}
use Prim.Native.Nat.{ℕ, ◌+◌, ◌*◌}
use Rattle.plan.specs.Passes.{blocks-none, blocks-next}
use Rattle.unpack.specs.Edges.{sheet_rule}
use lib.ListN.{get_or}
use Rattle.unpack.proofs.edges_kind.Goals as goal

pub loop-k-init : goal.loop-k-init
loop-k-init c = let n = c.args.layout.now.sizes.sheet in blocks-none _ n _ n 0 c.args.edges.now

pub loop-k-preserved : goal.loop-k-preserved
loop-k-preserved c = let l = c.loop-k in let z = c.args.layout.now.sizes in let first = get_or c.args.layout.now.table (160 + c.args.kind) 0 * z.sheet in
    let rule = λ (j : ℕ). sheet_rule c.args.w.now.growth c.args.w.now.correction c.args.layout.now.table (4608 + 240 * c.args.kind) (z.nodes * c.args.kind + first + j * z.sheet) in
    blocks-next _ z.sheet rule z.sheet 0 c.args.edges.now l.k l.edges _ _ (rule l.k) refl refl l.invariant (c.store.ensures (rule l.k) (λ i v m p. search rules))
