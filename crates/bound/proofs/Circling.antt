-- A WELL-FORMED WINDOW THAT NO CALLS ON A FRESH ONE LEAVE may never come to rest: 1 by 2 of model 0, at rest, two detectors that point at each other, one with a
-- defect. After the next round they send it to and fro, so that a run is spent whatever its budget. Assumes nothing.
use Rattle.std.specs.Prelude.{ℕ, zero, suc, ◌+◌, ◌≡◌, refl, false, List, [], ◌∷◌, ◌++◌}
use Rattle.std.proofs.Common.{arith, sym, ◌∙◌, ap}
use Rattle.refusal.specs.Answer.{done}
use Rattle.refusal.specs.Laws.{undone}
use Rattle.steps.specs.Steps.{base}
use Rattle.window.specs.AbsentWitness.{after}
use Rattle.window.specs.Merging.{merged}
use Rattle.window.specs.Run.{steps_from, ran}
use Rattle.window.specs.LawsRun.{steps_on, none_left, ran-grown}
use Rattle.window.specs.Window.{is_rest}
use Rattle.window.specs.declared.Ran.{Ran}
use Rattle.window.specs.declared.Window.{Window}
use Rattle.window.specs.Calls.{fresh_call}
use Rattle.law.specs.Law.{Call, Played, returned, play, start}
use Rattle.law.specs.Witness.{takes, opened}
use Rattle.law_holds.specs.Play.{play-append}
use Rattle.bound.specs.Bound.{step_bound}
use Rattle.bound.proofs.Theorem.{merging-rests-0}
use Rattle.bound.specs.Circling.{Circles, begun, circling, due}

pub circles : Circles
unfolding opened after circling due begun
circles = record { formed = refl; rest = refl; received = refl; grows = refl; moving = refl; first = refl; second = refl; back = refl }

never-steps : (n made : ℕ) → (steps_from base n made begun).rest ≡ false
never-steps zero made = ap (λ (r : Ran). r.rest) (none_left base made begun)
never-steps (suc zero) made = ap (λ (r : Ran). r.rest) (steps_on base made begun 0 circles.first ∙ none_left base (made + 1) (merged base begun))
never-steps (suc (suc n)) made =
    ap (λ (r : Ran). r.rest)
    (steps_on base made begun (suc n) circles.first
    ∙ steps_on base (made + 1) (merged base begun) n circles.second
    ∙ ap (λ (w : Window). steps_from base n (made + 1 + 1) w) circles.back)
    ∙ never-steps n (made + 1 + 1)

pub never-rests : (budget : ℕ) → (ran base budget due).rest ≡ false
unfolding begun
never-rests budget = ap (λ (r : Ran). r.rest) (ran-grown base budget due circles.grows) ∙ never-steps budget 0

-- so no list of calls on a fresh window leaves it: after the next round a run with the bound would come to rest
pub unreached : (height distance model largest_height largest_distance : ℕ) (w : Window) (n : ℕ) → fresh_call base height distance model largest_height largest_distance ≡ done w n → (calls : List Call)
    → (play base (start w) calls).window ≡ circling → ⊥
unfolding play
unreached height distance model largest_height largest_distance w n e calls q =
    let most = step_bound height distance model in
    let after = calls ++ (takes 0 ∷ []) in
    let left : (play base (start w) after).window ≡ due =
    ap (λ (p : Played). p.window) (play-append base (start w) calls (takes 0 ∷ [])) ∙ ap (λ (v : Window). returned base v (takes 0)) q ∙ circles.received in
    let c = (merging-rests-0 height distance model largest_height largest_distance w n e after).rests (ap (λ (v : Window). is_rest v.stage) left ∙ circles.moving) in
    undone (sym (c.rests most (omega arith)) ∙ ap (λ (v : Window). (ran base most v).rest) left ∙ never-rests most)
