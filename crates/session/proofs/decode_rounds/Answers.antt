-- `session::decode_rounds` meets its contract: a window that is not well-formed, one that is not at rest, or one that is. Assumes nothing.
use Rattle.std.proofs.Common.{rules, sym, ◌∙◌, ◌≡◌, false}
use Rattle.steps.specs.Models.{of_model}
use Rattle.window.specs.Window.{is_rest}
use Rattle.rounds_on.specs.Passing.{pass-bad, pass-stage}
use Rattle.session.proofs.decode_rounds.Goals as goal

pub returns-then-not-well_formed : goal.returns-then-not-well_formed
returns-then-not-well_formed c =
    let a = c.args in
    pass-bad (of_model a.w.shape.model) a.src.now a.w a.at a.out.now a.to (sym c.well_formed-2.ensures ∙ c.if-not-well_formed.true)

pub returns-then-ne : goal.returns-then-ne
returns-then-ne c =
    let a = c.args in
    let stage : is_rest a.w.stage ≡ false = search rules in
    pass-stage (of_model a.w.shape.model) a.src.now a.w a.at a.out.now a.to (sym c.well_formed-2.ensures ∙ c.if-not-well_formed.false) stage
