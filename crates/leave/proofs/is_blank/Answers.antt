-- `leave::is_blank` meets its contract: the stretch tells, or each entry. Assumes nothing.
use Rattle.std.proofs.Common.{rules, arith, ap, sym, ◌∙◌, ◌+◌, not}
use borrow.Author.Tests.{lt-ltb}
use Rattle.flat.specs.Codes.{correction_of}
use Rattle.leave.specs.LawsLeaving.{small-blank, any-part}
use Rattle.leave.proofs.is_blank.Goals as goal

pub returns-then-bits_on-lt4 : goal.returns-then-bits_on-lt4
returns-then-bits_on-lt4 c = lt-ltb _ _ c.if-bits_on-lt4.true ∙ sym (ap not (small-blank c.args.edges.now c.args.at c.args.n c.args.n c.bits_on.result (omega arith) c.bits_on.ensures.most c.if-bits_on-lt4.true))

pub returns-else-bits_on-lt4 : goal.returns-else-bits_on-lt4
returns-else-bits_on-lt4 c =
    let a = c.args in
    ap not (c.any_of.ensures correction_of (λ v b e. search rules) ∙ any-part a.edges.now a.at (a.at + a.n) (omega arith) correction_of a.n (omega arith))
