-- RUN keeps whatever GROW and MERGING keep. Assumes nothing.
use Rattle.std.specs.Prelude.{ℕ, zero, suc, ◌+◌, ◌≡◌, true, false}
use Rattle.std.proofs.Math.Path.{refl}
use Rattle.std.proofs.Common.{sym, ◌∙◌, ap, ⊎_elim}
use Rattle.refusal.specs.Laws.{undone}
use Rattle.shape.specs.Choice.{if, if-true, if-false, tell}
use Rattle.steps.specs.Steps.{Table}
use Rattle.window.specs.Window.{is_rest, is_to_grow, is_merging}
use Rattle.window.specs.Formed.{well_formed}
use Rattle.window.specs.Grow.{grown}
use Rattle.window.specs.Merging.{merged}
use Rattle.window.specs.Run.{steps_from, ran}
use Rattle.window.specs.LawsRun.{steps-rest, steps_on, none_left}
use Rattle.window.specs.declared.Stage.{Stage}
use Rattle.window.specs.declared.Stage.TheVariants.{Rest, ToGrow, Merging}
use Rattle.window.specs.declared.Window.{Window}
use Rattle.steps.specs.Suited.{Suited}
use Rattle.closure.specs.Grow.{grow}
use Rattle.closure.specs.Merging.{merging, merging-stage}

module _ (T : Table) (P : Window → Type 0)
    (grows : (w : Window) → is_to_grow w.stage ≡ true → P w → P (grown T w))
    (merges : (w : Window) → is_merging w.stage ≡ true → P w → P (merged T w)) where
  steps : (n made : ℕ) (w : Window) → is_merging w.stage ≡ true → P w → P (steps_from T n made w).window
  steps zero made w st k = rw (none_left T made w) k
  steps (suc n) made w st k =
      ⊎_elim (λ e. rw (steps-rest T made w n e) (merges w st k))
      (λ e. rw (steps_on T made w n e) (steps n (made + 1) (merged T w) (merging-stage T w e) (merges w st k)))
      (tell (is_rest (merged T w).stage))

  pub run-keeps : (budget : ℕ) (w : Window) → is_rest w.stage ≡ false → P w → P (ran T budget w).window
  unfolding ran grown
  run-keeps budget w st k = go w.stage refl
    where
      go : (s : Stage) → w.stage ≡ s → P (steps_from T budget 0 (if (is_to_grow w.stage) (grown T w) w)).window
      go Rest e = absurd (undone (sym (ap is_rest e) ∙ st))
      go ToGrow e = rw (if-true (is_to_grow w.stage) (grown T w) w (ap is_to_grow e)) (steps budget 0 (grown T w) refl (grows w (ap is_to_grow e) k))
      go Merging e = rw (if-false (is_to_grow w.stage) (grown T w) w (ap is_to_grow e)) (steps budget 0 w (ap is_merging e) k)

-- so a window stays well-formed
pub run : (T : Table) → Suited T → (budget : ℕ) (w : Window) → well_formed T w ≡ true → is_rest w.stage ≡ false → well_formed T (ran T budget w).window ≡ true
run T S budget w e st = run-keeps T (λ v. well_formed T v ≡ true) (λ v i k. grow T S.proper v k) (λ v i k. merging T v S k i) budget w st e
