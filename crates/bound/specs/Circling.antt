-- A WELL-FORMED WINDOW THAT NO CALLS ON A FRESH ONE LEAVE may never come to rest: 1 by 2 of model 0, at rest, two detectors that point at each other, one with a
-- defect. After the next round they send it to and fro, so that a run is spent whatever its budget. Assumes nothing.
use Rattle.std.specs.Prelude.{◌≡◌, true, false, [], ◌∷◌}
use Rattle.steps.specs.Steps.{base}
use Rattle.window.specs.AbsentWitness.{after, node, stage, with}
use Rattle.window.specs.Formed.{well_formed}
use Rattle.window.specs.Round.{rounded}
use Rattle.window.specs.Grow.{grown}
use Rattle.window.specs.Merging.{merged}
use Rattle.window.specs.Window.{is_rest, is_to_grow}
use Rattle.window.specs.declared.Mark.TheVariants.{Root}
use Rattle.window.specs.declared.Stage.TheVariants.{Rest}
use Rattle.window.specs.declared.Window.{Window}
use Rattle.law.specs.Law.{returned}
use Rattle.law.specs.Witness.{takes}

-- node 1 points down at node 4, which points up
unfoldable pub circling : Window
circling = stage Rest (node 1 (with false true false 5 (Root 8)) (node 4 (with false false false 6 (Root 9)) (after 5)))

unfoldable pub due : Window
due = rounded base circling (0 ∷ [])

-- the window after growing; two merging steps lead back to it
unfoldable pub begun : Window
begun = grown base due

pub record Circles : Type 0 where
  pub formed : well_formed base circling ≡ true
  pub rest : is_rest circling.stage ≡ true
  pub received : returned base circling (takes 0) ≡ due
  pub grows : is_to_grow due.stage ≡ true
  pub moving : is_rest due.stage ≡ false
  pub first : is_rest (merged base begun).stage ≡ false
  pub second : is_rest (merged base (merged base begun)).stage ≡ false
  pub back : merged base (merged base begun) ≡ begun
