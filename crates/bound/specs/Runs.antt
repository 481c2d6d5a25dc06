-- RUNS: one that comes to rest is the same with every larger budget. Assumes nothing.
use Rattle.std.specs.Prelude.{ℕ, zero, suc, ◌+◌, ◌-◌, ◌≤◌, ◌≡◌, true}
use Rattle.std.proofs.Common.{suc-add, arith, sym, ◌∙◌, ap}
use Rattle.refusal.specs.Laws.{undone}
use Rattle.shape.specs.Choice.{if, whether}
use Rattle.steps.specs.Steps.{Table}
use Rattle.window.specs.Window.{is_rest, is_to_grow}
use Rattle.window.specs.Grow.{grown}
use Rattle.window.specs.Merging.{merged}
use Rattle.window.specs.Run.{steps_from, ran}
use Rattle.window.specs.LawsRun.{steps-rest, steps_on, none_left}
use Rattle.window.specs.declared.Ran.{Ran}
use Rattle.window.specs.declared.Window.{Window}

module _ (T : Table) where
  -- a budget larger by i
  steps-more : (k i made : ℕ) (w : Window) → (steps_from T k made w).rest ≡ true → steps_from T (k + i) made w ≡ steps_from T k made w
  steps-more zero i made w e = absurd (undone (sym e ∙ ap (λ (r : Ran). r.rest) (none_left T made w)))
  steps-more (suc k) i made w e =
      ap (λ (n : ℕ). steps_from T n made w) (suc-add k i)
      ∙ whether (is_rest (merged T w).stage)
      (λ t. steps-rest T made w (k + i) t ∙ sym (steps-rest T made w k t))
      (λ t.
      steps_on T made w (k + i) t
      ∙ steps-more k i (made + 1) (merged T w) (sym (ap (λ (r : Ran). r.rest) (steps_on T made w k t)) ∙ e)
      ∙ sym (steps_on T made w k t))

  pub steps-larger : (k n made : ℕ) (w : Window) → k ≤ n → (steps_from T k made w).rest ≡ true → steps_from T n made w ≡ steps_from T k made w
  steps-larger k n made w l e =
      let q : n ≡ k + (n - k) = omega arith in
      ap (λ (m : ℕ). steps_from T m made w) q ∙ steps-more k (n - k) made w e

  -- whether it comes to rest does not depend on the steps made before
  pub rest-same : (k a b : ℕ) (w : Window) → (steps_from T k a w).rest ≡ (steps_from T k b w).rest
  rest-same zero a b w = ap (λ (r : Ran). r.rest) (none_left T a w) ∙ sym (ap (λ (r : Ran). r.rest) (none_left T b w))
  rest-same (suc k) a b w =
      whether (is_rest (merged T w).stage)
      (λ t. ap (λ (r : Ran). r.rest) (steps-rest T a w k t) ∙ sym (ap (λ (r : Ran). r.rest) (steps-rest T b w k t)))
      (λ t. ap (λ (r : Ran). r.rest) (steps_on T a w k t) ∙ rest-same k (a + 1) (b + 1) (merged T w) ∙ sym (ap (λ (r : Ran). r.rest) (steps_on T b w k t)))

  -- the same of run
  pub run-larger : (k n : ℕ) (w : Window) → k ≤ n → (ran T k w).rest ≡ true → ran T n w ≡ ran T k w
  unfolding ran
  run-larger k n w l e = steps-larger k n 0 (if (is_to_grow w.stage) (grown T w) w) l e
