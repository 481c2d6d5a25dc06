-- THE STEPS OF A MERGING STAGE BY VALUE, 1 by 2 of model 0: N is 9. Assumes nothing.
use Rattle.std.specs.Prelude.{refl}
use Rattle.window.specs.Calls.{grow_call, merging_call}
use Rattle.law.specs.Witness.{opened}
use Rattle.bound.specs.Bound.{stage_steps}
use Rattle.bound.specs.Witness.{StepsMet, counted}

pub steps-met : StepsMet
unfolding opened counted stage_steps grow_call merging_call
steps-met = record { most = refl; refused = refl; by-run = refl; second = refl; by-calls = refl; halfway = refl }
