-- `raw::differences` meets its contract: the places passed are by the rule. Assumes nothing.
use native.Mathlib.Omega.{arith}
use borrow.Author.Rules.{rules as found}
use lib.ListN.{length}
use Prim.Native.Nat.{ℕ}
use Rattle.window.specs.Lists.{over}
use mathlib.Core.Path.{◌≡◌, sym, ◌∙◌, ap}
use Rattle.window.specs.LawsLists.{over_none, over-next, over-all}
use Rattle.window.specs.Measured as rules
use Rattle.raw.proofs.differences.Invariants.{rule}
use Rattle.raw.proofs.differences.Goals as goal

pub loop-i-init : goal.loop-i-init
loop-i-init c = sym (over_none (rule c.args.sheet.now c.args.bytes.now) _)

pub loop-i-preserved : goal.loop-i-preserved
loop-i-preserved c = let l = c.loop-i in over-next (rule c.args.sheet.now c.args.bytes.now) c.args.defects.now l.i l.defects _ (omega (arith, c.requires.defects_len, c.loop-i-test.true)) l.invariant (search found)

pub returns : goal.returns
unfolding rules.differences
returns c =
    let r = rule c.args.sheet.now c.args.bytes.now in
    let z : c.loop-i.i ≡ length c.args.bytes.now = omega (arith, c.loop-i-test.false, c.loop-i.auto.i-end) in
    c.loop-i.invariant ∙ ap (λ (n : ℕ). over n r c.args.defects.now) z ∙ over-all r (length c.args.bytes.now) c.args.defects.now (omega (arith, c.requires.defects_len))
