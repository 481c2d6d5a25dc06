-- THE STEPS OF A MERGING STAGE BY VALUE, 1 by 2 of model 0: N is 9. Assumes nothing.
use Rattle.std.specs.Prelude.{ℕ, ◌≡◌, List, [], ◌∷◌}
use Rattle.steps.specs.Steps.{base}
use Rattle.law.specs.Law.{Call, grow, merging, run}
use Rattle.law.specs.Witness.{takes, none}
use Rattle.bound.specs.Bound.{step_bound, stage_steps}

-- steps of the last stage
unfoldable pub counted : List Call → ℕ
counted calls = stage_steps base none 0 calls

pub record StepsMet : Type 0 where
  pub most : step_bound 1 2 0 ≡ 40
  pub refused : step_bound 1 16 0 ≡ 0
  pub by-run : counted (takes 1 ∷ run 40 ∷ []) ≡ 2
  -- a second stage is counted anew
  pub second : counted (takes 1 ∷ run 40 ∷ takes 1 ∷ run 40 ∷ []) ≡ 2
  -- over whichever calls, refused ones among them: here a run that is spent, a step, a round in the wrong stage and a run
  pub by-calls : counted (takes 1 ∷ run 0 ∷ merging ∷ takes 1 ∷ run 40 ∷ []) ≡ 2
  pub halfway : counted (takes 1 ∷ grow ∷ merging ∷ grow ∷ []) ≡ 1
