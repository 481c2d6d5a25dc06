-- `fresh::fresh` meets its contract. Assumes nothing.
use mathlib.Core.Path.{◌∙◌, ap}
use Rattle.refusal.specs.Answer.{turned}
use Rattle.window.specs.Calls.{given}
use Rattle.window.specs.declared.Window.{Window}
use Rattle.fresh.proofs.Opened.{fresh-refused, fresh-done}
use Rattle.fresh.proofs.fresh.Goals as goal

pub returns-in-Ok : goal.returns-in-Ok
returns-in-Ok c = fresh-done c.args.height c.args.distance c.args.model c.args.largest_height c.args.largest_distance c.allowed_shape.result c.allowed_shape.ensures c.in-Ok.shape c.fresh_window.result c.in-Ok.is c.fresh_window.ensures

pub returns-in-Err : goal.returns-in-Err
returns-in-Err c = ap (λ (x : Window). given (turned c.in-Err.f) x) c.no_window.ensures ∙ fresh-refused c.args.height c.args.distance c.args.model c.args.largest_height c.args.largest_distance c.allowed_shape.result c.allowed_shape.ensures c.in-Err.f c.in-Err.is
