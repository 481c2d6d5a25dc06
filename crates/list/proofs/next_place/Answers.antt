-- `list::next_place` meets its contract. Assumes nothing.
use Rattle.std.proofs.Common.{rules, ◌≡◌, sym, ◌∙◌, ap, ◌+◌, lt-ltb, le-ltb, arith, Err}
use Rattle.refusal.specs.Answer.{refused_at}
use Rattle.refusal.specs.Laws.{stays-turned}
use Rattle.refusal.specs.Done.{goes_on_lem, passes, fails}
use Rattle.number.specs.Number.{number_answer}
use Rattle.list.specs.Sheet.{place_at}
use Rattle.list.proofs.next_place.Goals as goal

pub returns-in_err-skip : goal.returns-in_err-skip
unfolding place_at
returns-in_err-skip c =
    let e : c.from_residual.result ≡ Err c.in_err-skip.field-0.0 = search rules in
    let d = sym c.read_number.ensures ∙ ap number_answer c.in_err-skip.was in
    rw e (sym (stays-turned c.in_err-skip.field-0.0 _ d))

pub returns-then-size-from : goal.returns-then-size-from
unfolding place_at
returns-then-size-from c =
    let d = sym c.read_number.ensures ∙ ap number_answer c.in_ok-skip.was in
    sym (goes_on_lem _ d ∙ fails _ (refused_at 9 c.args.at) (le-ltb (c.args.from + c.in_ok-skip.skip) c.args.size (omega (arith, c.if-size-from.true, c.requires))))

pub returns : goal.returns
unfolding place_at
returns c =
    let d = sym c.read_number.ensures ∙ ap number_answer c.in_ok-skip.was in
    sym (goes_on_lem _ d ∙ passes _ _ (lt-ltb (c.args.from + c.in_ok-skip.skip) c.args.size (omega (arith, c.if-size-from.false, c.requires))))
