-- `list::read_count` meets its contract. Assumes nothing.
use Rattle.std.proofs.Common.{rules, ◌≡◌, sym, ◌∙◌, ap, le-leb, Err}
use Rattle.std.proofs.lemmas.Bool.{lt-leb}
use Rattle.refusal.specs.Laws.{stays-turned}
use Rattle.refusal.specs.Done.{goes_on_lem, passes, fails}
use Rattle.number.specs.Number.{number_answer}
use Rattle.list.specs.Sheet.{count_at}
use Rattle.list.proofs.read_count.Goals as goal

pub returns-in_err-count : goal.returns-in_err-count
unfolding count_at
returns-in_err-count c =
    let e : c.from_residual.result ≡ Err c.in_err-count.field-0.0 = search rules in
    let d = sym c.read_number.ensures ∙ ap number_answer c.in_err-count.was in
    rw e (sym (stays-turned c.in_err-count.field-0.0 _ d))

pub returns-then-size-count : goal.returns-then-size-count
unfolding count_at
returns-then-size-count c =
    let d = sym c.read_number.ensures ∙ ap number_answer c.in_ok-count.was in
    sym (goes_on_lem _ d ∙ fails _ _ (lt-leb c.in_ok-count.count c.args.size c.if-size-count.true))

pub returns : goal.returns
unfolding count_at
returns c =
    let d = sym c.read_number.ensures ∙ ap number_answer c.in_ok-count.was in
    sym (goes_on_lem _ d ∙ passes _ _ (le-leb c.in_ok-count.count c.args.size c.if-size-count.false))
