-- `leave::is_quiet` meets its contract: the stretch tells, or each entry. Assumes nothing.
use Rattle.std.proofs.Common.{rules, arith, ap, sym, ◌∙◌, ◌+◌, get_or, not}
use Rattle.flat.specs.Codes.{defect_of}
use Rattle.window.specs.LawsLists.{any-not}
use Rattle.leave.specs.LawsLeaving.{any-part}
use Rattle.leave.proofs.is_quiet.Goals as goal

pub returns-then-not-defect : goal.returns-then-not-defect
returns-then-not-defect c = ap not (c.if-not-defect.true ∙ sym (any-not (λ i. defect_of (get_or c.args.nodes.now (c.args.at + i) 0)) c.args.n (c.bits_on.ensures.defects (sym c.defect.ensures ∙ c.if-not-defect.true))))

pub returns-else-not-defect : goal.returns-else-not-defect
returns-else-not-defect c =
    let a = c.args in
    ap not (c.any_of.ensures defect_of (λ v b e. search rules) ∙ any-part a.nodes.now a.at (a.at + a.n) (omega arith) defect_of a.n (omega arith))
