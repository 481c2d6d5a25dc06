-- `leave::commit` meets its contract: the bytes passed are by the rule. Assumes nothing.
use Rattle.std.proofs.Common.{arith, ◌≡◌, ap, sym, ◌∙◌, ℕ, length}
use Rattle.window.specs.Lists.{over, bit}
use Rattle.window.specs.LawsLists.{over_none, over-next, over-all}
use Rattle.leave.specs.LawsLeaving.{bit-byte}
use Rattle.leave.proofs.commit.Invariants.{rule}
use Rattle.leave.proofs.commit.Goals as goal

pub loop-i-init : goal.loop-i-init
loop-i-init c = sym (over_none (rule c.args.table.now c.args.edges.now) _)

pub loop-i-preserved : goal.loop-i-preserved
loop-i-preserved c =
    over-next (rule c.args.table.now c.args.edges.now) c.args.out.now c.loop-i.i c.loop-i.out c.from.result (omega arith) c.loop-i.invariant
    (c.from.ensures ∙ bit-byte c.corrected.result ∙ ap bit c.corrected.ensures)

pub returns : goal.returns
returns c =
    let f = rule c.args.table.now c.args.edges.now in
    let n = length c.args.out.now in
    let e : c.loop-i.i ≡ n = omega (arith, c.loop-i-test.false, c.loop-i.auto.i-end) in
    c.loop-i.invariant ∙ ap (λ (k : ℕ). over k f c.args.out.now) e ∙ over-all f n c.args.out.now (omega arith)
