-- S-5, MERGING COMES TO REST: how long a scheduler may have to wait, after every list of calls on a fresh window, raw and refused calls among
-- them. Assumes nothing.
use Rattle.std.specs.Prelude.{ℕ, ◌+◌, ◌-◌, ◌*◌, ◌≤◌, ◌≡◌, true, false, List, [], ◌∷◌}
use Rattle.refusal.specs.Answer.{done, value_or}
use Rattle.shape.specs.Choice.{if}
use Rattle.shape.specs.Sizes.{nodes_of, size_by}
use Rattle.shape.specs.declared.Shape.{Shape}
use Rattle.steps.specs.Steps.{Table}
use Rattle.window.specs.Window.{is_rest, is_merging}
use Rattle.window.specs.Run.{ran}
use Rattle.window.specs.Calls.{fresh_call, merging_call, run_call}
use Rattle.window.specs.declared.Window.{Window}
use Rattle.law.specs.Law.{Call, round, raw, grow, merging, run, returned, play, start}

-- THE BOUND of a shape: 4 N + 4, N the nodes of its window
abbrev pub bound_of : Shape → ℕ
bound_of sh = 4 * nodes_of sh.height sh.distance + 4

-- the same by height, distance and model; 0 where the shape is refused
abbrev pub step_bound : ℕ → ℕ → ℕ → ℕ
step_bound height distance model = size_by bound_of height distance model

-- A WINDOW NOT AT REST, to grow or merging, and a number of steps, `most`
pub record ComesToRest (T : Table) (most : ℕ) (w : Window) : Type 0 where
  -- no run of it is refused
  pub accepted : (budget : ℕ) → run_call T w budget ≡ done (ran T budget w) 0
  -- with a budget of `most` or more it comes to rest, and counts at most `most` steps:
  pub rests : (budget : ℕ) → most ≤ budget → (ran T budget w).rest ≡ true
  pub steps : (budget : ℕ) → most ≤ budget → (ran T budget w).count ≤ most
  -- it is the same run, the same window and the same count
  pub same : (budget : ℕ) → most ≤ budget → ran T budget w ≡ ran T most w

-- THE STEPS OF A MERGING STAGE, whichever calls make them

module _ (T : Table) where
  -- the merging steps that a call makes, none if it is refused
  abbrev pub steps_by : Window → Call → ℕ
  steps_by w (round bytes edges escapes) = 0
  steps_by w (raw bytes edges escapes) = 0
  steps_by w grow = 0
  steps_by w merging = value_or (merging_call T w) (λ v. 1) 0
  steps_by w (run budget) = value_or (run_call T w budget) (λ r. r.count) 0

  -- The steps of the merging stage that the last call found or began, 0 if there is none. Of the stage of the first window n were made before; a
  -- call that finds the window at rest or to grow begins a new count
  unfoldable pub stage_steps : Window → ℕ → List Call → ℕ
  stage_steps w n [] = n
  stage_steps w n (c ∷ cs) = stage_steps (returned T w c) (if (is_merging w.stage) n 0 + steps_by w c) cs

-- n steps of a window's merging stage were made: no more than the bound, and if the stage goes on, what is left of the bound brings it to rest
pub record StageBounded (T : Table) (most : ℕ) (w : Window) (n : ℕ) : Type 0 where
  pub steps : n ≤ most
  pub rests : is_merging w.stage ≡ true → (ran T (most - n) w).rest ≡ true

-- THE STATEMENT

pub record Bounded (T : Table) (most : ℕ) (w : Window) (calls : List Call) : Type 0 where
  -- if the calls leave the window not at rest, a run with a budget of `most` or more brings it there;
  pub rests : is_rest (play T (start w) calls).window.stage ≡ false → ComesToRest T most (play T (start w) calls).window
  -- and each merging stage takes at most `most` steps, over whichever calls they are made
  pub stages : StageBounded T most (play T (start w) calls).window (stage_steps T w 0 calls)

-- of every fresh window, whatever the limits that it is created for, and whatever list of calls it is given
abbrev pub MergingRests : Table → Type 0
MergingRests T =
    (height distance model largest_height largest_distance : ℕ) (w : Window) (n : ℕ) → fresh_call T height distance model largest_height largest_distance ≡ done w n
    → (calls : List Call) → Bounded T (step_bound height distance model) w calls
