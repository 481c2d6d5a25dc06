-- THE STEPS OF A MERGING STAGE, counted over the calls that make them: what is left of those allowed is enough. Assumes nothing.
use Prim.Native.Nat.{ℕ, zero, suc, ◌+◌, ◌-◌, ◌*◌, ◌≤◌}
use native.Mathlib.Omega.{arith}
use Rattle.std.specs.Prelude.{◌≡◌, true, false, not}
use Rattle.std.proofs.Math.Path.{refl, subst}
use Rattle.std.proofs.Common.{sym, ◌∙◌, ap}
use mathlib.Core.List.{List, [], ◌∷◌}
use Rattle.std.proofs.lemmas.Bool.{not-true}
use Rattle.refusal.specs.Answer.{Answer, done, ended, refused, refused_at, value_or, itself}
use Rattle.refusal.specs.Laws.{undone}
use Rattle.shape.specs.Choice.{if, if-true, if-false, whether}
use Rattle.shape.specs.Sizes.{nodes_of}
use Rattle.steps.specs.Steps.{Table}
use Rattle.shape.specs.declared.Shape.{Shape}
use Rattle.window.specs.Window.{is_rest, is_to_grow, is_merging}
use Rattle.window.specs.Round.{rounded}
use Rattle.window.specs.Measured.{measuring}
use Rattle.window.specs.Grow.{grown}
use Rattle.window.specs.Merging.{merged}
use Rattle.window.specs.Run.{steps_from, ran}
use Rattle.window.specs.LawsRun.{steps-rest, steps_on, none_left, ran-grown, ran-merging}
use Rattle.window.specs.Calls.{leaves, Round, window_of, receiving, receiving_raw, round_call, raw_call, grow_call, merging_call, run_call}
use Rattle.window.specs.declared.Ran.{Ran}
use Rattle.window.specs.declared.Stage.{Stage}
use Rattle.window.specs.declared.Stage.TheVariants.{Rest, ToGrow, Merging}
use Rattle.window.specs.declared.Window.{Window}
use Rattle.closure.specs.States.{rest-not-merging, merging-on}
use Rattle.steps.specs.Suited.{Suited}
use Rattle.closure.specs.Done.{Accepted, staged, accepted}
use Rattle.law.specs.Law.{Played, Call, round, raw, grow, merging, run, returned, play, start}
use Rattle.bound.specs.Bound.{steps_by, stage_steps, StageBounded}
use Rattle.bound.specs.Phases.{Rests}
use Rattle.bound.specs.Runs.{rest-same}
use Rattle.bound.specs.Reachable.{Reachable, reachable-call, grown-rests}

-- RUNS

module _ (T : Table) where
  rests-some : (k : ℕ) (w : Window) → Rests T k w → 1 ≤ k
  rests-some zero w h = absurd (undone (sym (h 0) ∙ ap (λ (r : Ran). r.rest) (none_left T 0 w)))
  rests-some (suc k) w h = omega arith

  -- after a step, one less
  rests-on : (k : ℕ) (w : Window) → Rests T (suc k) w → is_rest (merged T w).stage ≡ false → Rests T k (merged T w)
  rests-on k w h e n = rest-same T k n 1 (merged T w) ∙ sym (ap (λ (r : Ran). r.rest) (steps_on T 0 w k e)) ∙ h 0

  -- of a window that is merging, the same by its run
  to-run : (k : ℕ) (w : Window) → is_merging w.stage ≡ true → Rests T k w → (ran T k w).rest ≡ true
  to-run k w m h = ap (λ (r : Ran). r.rest) (ran-merging T k w (merging-on w.stage m).1) ∙ h 0

  by-run : (k : ℕ) (w : Window) → is_merging w.stage ≡ true → (ran T k w).rest ≡ true → Rests T k w
  by-run k w m e made = rest-same T k made 0 w ∙ sym (ap (λ (r : Ran). r.rest) (ran-merging T k w (merging-on w.stage m).1)) ∙ e

  -- the answer r of a run, where so many steps in all are enough
  record Enough (all : ℕ) (r : Ran) : Type 0 where
    steps : r.count ≤ all
    rests : is_merging r.window.stage ≡ true → Rests T (all - r.count) r.window

  -- of a run after n steps, where k more are enough
  enough-for : (b k n all : ℕ) (w : Window) → n + k ≡ all → Rests T k w → Enough all (steps_from T b n w)
  enough-for zero k n all w q h = let x : all - n ≡ k = omega arith in rw (none_left T n w) (record { steps = omega arith; rests = λ st. rw x h })
  enough-for (suc b) zero n all w q h = absurd (omega (arith, rests-some zero w h))
  enough-for (suc b) (suc k) n all w q h =
      whether (is_rest (merged T w).stage)
      (λ e. rw (steps-rest T n w b e) (record { steps = omega arith; rests = λ st. absurd (rest-not-merging (merged T w).stage e st) }))
      (λ e. rw (steps_on T n w b e) (enough-for b k (n + 1) all (merged T w) (omega arith) (rests-on k w h e)))

-- a call's window and the merging steps that it makes: none if it is not done
by_answer : {A : Type 0} (Q : Window → ℕ → Type 0) (a : Answer A) (of : A → Window) (count : A → ℕ) (w : Window) → Q w 0
    → ((v : A) (n : ℕ) → a ≡ done v n → Q (of v) (count v)) → Q (leaves a of w).window (value_or a count 0)
by_answer Q (done v n) of count w q h = h v n refl
by_answer Q ended of count w q h = q
by_answer Q (refused n) of count w q h = q
by_answer Q (refused_at n at) of count w q h = q

module _ (T : Table) (S : Suited T) (sh : Shape) (most : ℕ) (enough : 4 * nodes_of sh.height sh.distance + 2 ≤ most) where
  module _ (w : Window) (r : Reachable T sh w) (n : ℕ) (l : StageBounded T most w n) where
    -- the steps of the stage before the call
    abbrev before : ℕ
    before = if (is_merging w.stage) n 0

    before-merging : is_merging w.stage ≡ true → before ≡ n
    before-merging e = if-true (is_merging w.stage) n 0 e

    before-other : is_merging w.stage ≡ false → before ≡ 0
    before-other e = if-false (is_merging w.stage) n 0 e

    not-merging : is_to_grow w.stage ≡ true → is_merging w.stage ≡ false
    not-merging e = whether (is_merging w.stage) (λ m. absurd (undone (sym e ∙ (merging-on w.stage m).1))) (λ m. m)

    abbrev Q : Window → ℕ → Type 0
    Q v k = StageBounded T most v (before + k)

    -- of a refused call
    refused-bounded : Q w 0
    refused-bounded =
        whether (is_merging w.stage)
        (λ e. let q : before + 0 ≡ n = omega (arith, before-merging e) in rw q l)
        (λ e. let q : before + 0 ≡ 0 = omega (arith, before-other e) in rw q (record { steps = omega arith; rests = λ m. absurd (undone (sym m ∙ e)) }))

    -- a round, plain or raw, leaves the window to grow
    by-round : (bytes : List ℕ) (v : Round) (a : Answer Round) → ((r : Round) (k : ℕ) → a ≡ done r k → Accepted T w bytes v r) → is_merging v.window.stage ≡ false
        → Q (leaves a window_of w).window 0
    by-round bytes v a x g =
        by_answer (λ v k. Q v 0) a window_of (λ r. 0) w refused-bounded
        (λ r k e. subst (λ (r : Round). Q r.window 0) (x r k e).value (record { steps = refused-bounded.steps; rests = λ m. absurd (undone (sym m ∙ g)) }))

    by-grow : Q (leaves (grow_call T w) itself w).window 0
    unfolding grow_call
    by-grow =
        by_answer (λ v k. Q v 0) (grow_call T w) itself (λ v. 0) w refused-bounded
        (λ v k e.
        let x = staged T w (is_to_grow w.stage) (grown T w) v k e in
        let z : before + 0 ≡ 0 = omega (arith, before-other (not-merging x.staged)) in
        let y : most - 0 ≡ most = omega arith in
        subst (λ (u : Window). Q u 0) x.value (rw z (record { steps = omega arith; rests = λ m. rw y (to-run T most (grown T w) m (grown-rests T S sh most enough w r x.staged)) })))

    by-merging : Q (leaves (merging_call T w) itself w).window (value_or (merging_call T w) (λ v. 1) 0)
    unfolding merging_call
    by-merging =
        by_answer Q (merging_call T w) itself (λ v. 1) w refused-bounded
        (λ v k e.
        let x = staged T w (is_merging w.stage) (merged T w) v k e in
        let z : before + 1 ≡ suc n = omega (arith, before-merging x.staged) in
        let h = by-run T (most - n) w x.staged (l.rests x.staged) in
        let i = rests-some T (most - n) w h in
        let y : most - n ≡ suc (most - suc n) = omega arith in
        subst (λ (u : Window). Q u 1) x.value
        (rw z (record {
          steps = omega arith;
          rests = λ m. to-run T (most - suc n) (merged T w) m (rests-on T (most - suc n) w (rw y at h) (whether (is_rest (merged T w).stage) (λ t. absurd (rest-not-merging (merged T w).stage t m)) (λ t. t)));
        })))

    ran-bounded : (b : ℕ) → is_rest w.stage ≡ false → Q (ran T b w).window (ran T b w).count
    ran-bounded b st = go w.stage refl
      where
        on : (v : Window) (k : ℕ) → before ≡ k → k ≤ most → Rests T (most - k) v → Q (steps_from T b 0 v).window (steps_from T b 0 v).count
        on v k e i h =
            let x = enough-for T b (most - k) 0 (most - k) v (omega arith) h in
            let c = (steps_from T b 0 v).count in
            let y : most - (k + c) ≡ most - k - c = omega arith in
            rw e (record { steps = omega (arith, x.steps); rests = λ m. rw y (to-run T (most - k - c) (steps_from T b 0 v).window m (x.rests m)) })

        go : (x : Stage) → w.stage ≡ x → Q (ran T b w).window (ran T b w).count
        go Rest e = absurd (undone (sym (ap is_rest e) ∙ st))
        go ToGrow e =
            let t = ap is_to_grow e in
            let y : most - 0 ≡ most = omega arith in
            rw (ran-grown T b w t) (on (grown T w) 0 (before-other (not-merging t)) (omega arith) (rw y (grown-rests T S sh most enough w r t)))
        go Merging e = let t = ap is_merging e in rw (ran-merging T b w (ap is_to_grow e)) (on w n (before-merging t) l.steps (by-run T (most - n) w t (l.rests t)))

    by_runs : (b : ℕ) → Q (leaves (run_call T w b) (λ r. r.window) w).window (value_or (run_call T w b) (λ r. r.count) 0)
    unfolding run_call
    by_runs b =
        by_answer Q (run_call T w b) (λ r. r.window) (λ r. r.count) w refused-bounded
        (λ r k e.
        let x = staged T w (not (is_rest w.stage)) (ran T b w) r k e in
        subst (λ (r : Ran). Q r.window r.count) x.value (ran-bounded b (not-true _ x.staged)))

    by_call : (c : Call) → Q (returned T w c) (steps_by T w c)
    unfolding round_call raw_call rounded measuring
    by_call (round bytes edges escapes) =
        by-round bytes (receiving T w bytes) (round_call T w bytes edges escapes) (λ r k e. accepted T w bytes edges escapes (receiving T w bytes) r k e) refl
    by_call (raw bytes edges escapes) =
        by-round bytes (receiving_raw T w bytes) (raw_call T w bytes edges escapes) (λ r k e. accepted T w bytes edges escapes (receiving_raw T w bytes) r k e) refl
    by_call grow = by-grow
    by_call merging = by-merging
    by_call (run b) = by_runs b

  pub bounded-calls : (calls : List Call) (w : Window) → Reachable T sh w → (n : ℕ) → StageBounded T most w n → StageBounded T most (play T (start w) calls).window (stage_steps T w n calls)
  unfolding play stage_steps
  bounded-calls calls w r n l = go calls (start w) r n l
    where
      go : (calls : List Call) (p : Played) → Reachable T sh p.window → (n : ℕ) → StageBounded T most p.window n → StageBounded T most (play T p calls).window (stage_steps T p.window n calls)
      go [] p r n l = l
      go (c ∷ cs) p r n l = go cs _ (reachable-call T S sh p.window r c) _ (by_call p.window r n l c)
