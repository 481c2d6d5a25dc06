-- THE STAGE AFTER A RUN of merging steps: rest where it says so, and merging where not. Assumes nothing.
use Prim.Native.Nat.{ℕ, zero, suc, ◌+◌}
use mathlib.Core.Path.{◌≡◌, refl, sym}
use mathlib.Core.Bool.{true, false}
use Rattle.refusal.specs.Laws.{undone}
use Rattle.shape.specs.Choice.{if, whether}
use Rattle.steps.specs.Steps.{Table}
use Rattle.window.specs.LawsRun.{steps-rest, steps_on, none_left}
use Rattle.window.specs.Merging.{merged}
use Rattle.window.specs.Run.{steps_from}
use Rattle.window.specs.Window.{is_rest, is_to_grow, is_merging}
use Rattle.window.specs.declared.Stage.{Stage}
use Rattle.window.specs.declared.Stage.TheVariants.{Rest, ToGrow, Merging}
use Rattle.window.specs.declared.Window.{Window}
use Rattle.closure.specs.Merging.{merging-stage}

pub is-merging : (s : Stage) → is_rest s ≡ false → is_to_grow s ≡ false → is_merging s ≡ true
is-merging Rest a b = absurd (undone a)
is-merging ToGrow a b = absurd (undone b)
is-merging Merging a b = refl

rest-is : (s : Stage) → is_rest s ≡ true → s ≡ Rest
rest-is Rest a = refl
rest-is ToGrow a = absurd (undone (sym a))
rest-is Merging a = absurd (undone (sym a))

merging-is : (s : Stage) → is_merging s ≡ true → s ≡ Merging
merging-is Rest a = absurd (undone (sym a))
merging-is ToGrow a = absurd (undone (sym a))
merging-is Merging a = refl

pub stage-after : (T : Table) (n made : ℕ) (w : Window) → is_merging w.stage ≡ true
    → (steps_from T n made w).window.stage ≡ if (steps_from T n made w).rest Rest Merging
stage-after T zero made w m = rw (none_left T made w) (merging-is w.stage m)
stage-after T (suc n) made w m =
    whether (is_rest (merged T w).stage)
    (λ e. rw (steps-rest T made w n e) (rest-is (merged T w).stage e))
    (λ e. rw (steps_on T made w n e) (stage-after T n (made + 1) (merged T w) (merging-stage T w e)))
