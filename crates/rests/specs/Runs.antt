-- A RUN of what calls, by their promises, have left: with the bound of the shape as its budget it answers rest. Assumes nothing.
use Rattle.std.specs.Prelude.{ℕ, ◌≤◌, ◌≡◌, false}
use Rattle.std.proofs.Common.{arith, ◌∙◌, ap, subst}
use Rattle.refusal.specs.Answer.{Answer, done, and_then}
use Rattle.steps.specs.Steps.{Table}
use Rattle.steps.specs.Models.{of_model}
use Rattle.window.specs.Window.{is_rest}
use Rattle.window.specs.Run.{ran}
use Rattle.window.specs.Calls.{Answered, fresh_leaves}
use Rattle.window.specs.declared.Ran.{Ran}
use Rattle.window.specs.declared.Window.{Window}
use Rattle.calls.specs.Answers.{Ended, rest, ended_by, run_leaves}
use Rattle.law.specs.Law.{Played}
use Rattle.bound.specs.Bound.{step_bound, ComesToRest}
use Rattle.bound.proofs.Theorem.{merging-rests-model}
use Rattle.account.specs.Link.{Promised}
use Rattle.account.proofs.Link.{as-list}

-- the answer of a run
abbrev answered : Answer Ran → Answer Ended
answered a = and_then a (λ (r : Ran) (n : ℕ). done (ended_by r.rest r.count) n)

run-answers : (T : Table) (most : ℕ) (w : Window) → ComesToRest T most w → (budget : ℕ) → most ≤ budget → (run_leaves T w budget).answer ≡ done (rest (ran T most w).count) 0
run-answers T most w c budget l =
    ap answered (c.accepted budget)
    ∙ ap (λ (r : Ran). answered (done r 0)) (c.same budget l)
    ∙ ap (λ b. done (ended_by b (ran T most w).count) 0) (c.rests most (omega arith))

pub promised-rests : (height distance model largest_height largest_distance n : ℕ) (x : Answered (Unit {0})) → x ≡ fresh_leaves (of_model model) height distance model largest_height largest_distance
    → x.answer ≡ done tt n
    → (p : Played) → Promised x.window p → is_rest p.window.stage ≡ false
    → (budget : ℕ) → step_bound height distance model ≤ budget
    → (steps : ℕ) × (steps ≤ step_bound height distance model) × ((run_leaves (of_model p.window.shape.model) p.window budget).answer ≡ done (rest steps) 0)
promised-rests height distance model largest_height largest_distance n x e d p k st budget l =
    let T = of_model model in
    let most = step_bound height distance model in
    let a = as-list height distance model largest_height largest_distance n x e d p k in
    let b = merging-rests-model model height distance model largest_height largest_distance x.window n a.created a.calls in
    let c : ComesToRest T most p.window =
    subst (λ (q : Played). is_rest q.window.stage ≡ false → ComesToRest T most q.window) a.plays b.rests st in
    ((ran T most p.window).count, c.steps most (omega arith), ap (λ (m : ℕ). (run_leaves (of_model m) p.window budget).answer) a.model_is ∙ run-answers T most p.window c budget l)
