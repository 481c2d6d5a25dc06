-- `leave::escape` meets its contract: the rows passed are by the rule. Assumes nothing.
use Rattle.std.proofs.Common.{arith, ◌≡◌, ap, sym, ◌∙◌, ℕ, ◌+◌, ◌-◌, ◌*◌, refl}
use Rattle.window.specs.Lists.{over}
use Rattle.window.specs.LawsLists.{over_none}
use Rattle.flat.specs.LawsEntries.{one_more, row_fits}
use Rattle.leave.specs.LawsLeaving.{escapes, escape-next, escape-done}
use Rattle.leave.proofs.escape.Goals as goal

pub loop-r-init : goal.loop-r-init
loop-r-init c =
    let b = 512 + c.args.z.nodes - c.args.z.sheet in
    let d = c.args.shape.distance in
    let e : 0 ≡ 0 * (d - 1) = omega arith in
    sym (over_none (escapes b d c.args.nodes.now c.args.out.now) c.args.out.now) ∙ ap (λ (k : ℕ). over k (escapes b d c.args.nodes.now c.args.out.now) c.args.out.now) e

pub loop-r-preserved : goal.loop-r-preserved
loop-r-preserved c =
    let b = 512 + c.args.z.nodes - c.args.z.sheet in
    let d = c.args.shape.distance in
    let r = c.loop-r.r in
    let e : r * (d - 1) + (d - 1) ≡ (r + 1) * (d - 1) = omega (arith, one_more r (d - 1)) in
    escape-next b d c.args.nodes.now c.args.out.now r _ (r * (d - 1)) c.loop-r.out c.escape_row.new.out
    (omega (arith, row_fits r _ (d - 1) c.loop-r-test.true, c.requires.out_len)) refl refl c.loop-r.invariant c.escape_row.ensures
    ∙ ap (λ (k : ℕ). over k (escapes b d c.args.nodes.now c.args.out.now) c.args.out.now) e

pub returns : goal.returns
returns c =
    let l = c.loop-r in
    escape-done (512 + c.args.z.nodes - c.args.z.sheet) c.args.shape.distance c.args.nodes.now c.args.out.now c.args.shape.height l.r (l.r * (c.args.shape.distance - 1)) l.out c.requires.out_len
    (omega arith) c.loop-r-test.false refl l.invariant
