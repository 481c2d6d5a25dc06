-- A merging step is a run of one. Assumes nothing.
use mathlib.Core.Path.{◌≡◌, ◌∙◌}
use mathlib.Core.Bool.{false}
use Rattle.shape.specs.Choice.{whether}
use Rattle.steps.specs.Models.{of_model}
use Rattle.window.specs.Window.{is_rest, is_to_grow}
use Rattle.window.specs.Merging.{merged}
use Rattle.window.specs.Run.{ran}
use Rattle.window.specs.LawsRun.{steps-rest, steps_on, none_left, ran-merging}
use Rattle.window.specs.declared.Window.{Window}

pub one-step : (w : Window) → is_to_grow w.stage ≡ false → ran (of_model w.shape.model) 1 w ≡ record { window = merged (of_model w.shape.model) w; rest = is_rest (merged (of_model w.shape.model) w).stage; count = 1 }
one-step w t =
    ran-merging (of_model w.shape.model) 1 w t
    ∙ whether (is_rest (merged (of_model w.shape.model) w).stage) (λ e. rw (steps-rest (of_model w.shape.model) 0 w 0 e, e)) (λ e. rw (steps_on (of_model w.shape.model) 0 w 0 e, none_left (of_model w.shape.model) 1 (merged (of_model w.shape.model) w), e))

pub ruleset steps = (one-step)
