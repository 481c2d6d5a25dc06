-- ONE PHASE AFTER ANOTHER: from every window of a merging stage, it comes to rest within 4 N + 2 steps. Assumes nothing.
use Rattle.std.specs.Prelude.{ℕ, zero, suc, ◌+◌, ◌*◌, ◌≤◌, ◌≡◌, true, false, ◌⊎◌}
use Rattle.std.proofs.Common.{arith, ◌∙◌, inr, ⊎_elim}
use Rattle.std.proofs.Math.Path.{refl, ap}
use Rattle.shape.specs.Choice.{if-false, whether}
use Rattle.steps.specs.Steps.{Table}
use Rattle.window.specs.Lists.{any}
use Rattle.window.specs.LawsLists.{any-not}
use Rattle.window.specs.Window.{is_rest, is_merging, size}
use Rattle.window.specs.Merging.{step_at, merged}
use Rattle.window.specs.Run.{steps_from}
use Rattle.window.specs.LawsRun.{steps-rest, steps_on}
use Rattle.window.specs.declared.Ran.{Ran}
use Rattle.window.specs.declared.Stage.TheVariants.{Rest, Merging}
use Rattle.window.specs.declared.Window.{Window}
use Rattle.steps.specs.Suited.{Suited}
use Rattle.closure.specs.Merging.{merging-stage}
use Rattle.closure.specs.Closure.{Kept, kept-merging}
use Rattle.law_holds.specs.Graph.{Graph, Laws, State, graph, view, Inv}
use Rattle.law_holds.specs.GraphLaws.{laws}
use Rattle.law_holds.specs.ClustersMerging.{merging-inv}
use Rattle.law_holds.specs.Flood.{busy}
use Rattle.bound.specs.MergingStep.{MergingStep}
use Rattle.bound.specs.Resets.{AllNumbered, Resets, resets_none, resets_step}
use Rattle.bound.specs.Levels.{Levels, AllLowest, levels-start, levels-end, levels-step}
use Rattle.bound.specs.Defects.{Defects, Gathered, defects-start, defects-end, defects-step}
use Rattle.bound.specs.Activity.{Activity, activity-start, activity-step, activity-end}
use Rattle.bound.specs.Merged.{moves}
use Rattle.bound.specs.Runs.{steps-larger}

-- a window of a merging stage, as calls leave it
pub record MergingWindow (T : Table) (w : Window) : Type 0 where
  pub kept : Kept T w
  pub merging : is_merging w.stage ≡ true
  pub inv : Inv (graph T w) (view w)

-- rest within k steps
abbrev pub Rests : Table → ℕ → Window → Type 0
Rests T k w = (made : ℕ) → (steps_from T k made w).rest ≡ true

-- what may hold of a window's clusters
abbrev Fact : Type 1
Fact = Graph → State → Type 0

module _ (T : Table) (S : Suited T) where
  abbrev Of : Fact → Window → Type 0
  Of P w = P (graph T w) (view w)

  going_on : (w : Window) → MergingWindow T w → is_rest (merged T w).stage ≡ false → MergingWindow T (merged T w)
  going_on w g e =
      record {
        kept = kept-merging T S w g.kept g.merging;
        merging = merging-stage T w e;
        inv = merging-inv T S w g.kept g.inv;
      }

  -- a step changes no edge's growth: the graph is the same
  carried : (P : Fact) (w : Window) → P (graph T w) (view (merged T w)) → Of P (merged T w)
  unfolding merged
  carried P w x = x

  -- one step, which ends at rest or not
  one_more : (k : ℕ) (w : Window) → (is_rest (merged T w).stage ≡ false → Rests T k (merged T w)) → Rests T (suc k) w
  one_more k w h made =
      whether (is_rest (merged T w).stage) (λ e. ap (λ (r : Ran). r.rest) (steps-rest T made w k e))
      (λ e. ap (λ (r : Ran). r.rest) (steps_on T made w k e) ∙ h e (made + 1))

  later : (k n : ℕ) (w : Window) → k ≤ n → Rests T k w → Rests T n w
  later k n w l h made = ap (λ (r : Ran). r.rest) (steps-larger T k n made w l (h made)) ∙ h made

  -- A PHASE: P counts down, a step at a time, until Q; and from Q on it takes k steps
  module _ (P : ℕ → Fact) (Q : Fact) (k : Window → ℕ)
      (same : (w : Window) → k (merged T w) ≡ k w)
      (step : (w : Window) → MergingWindow T w → (j : ℕ) → Of (P (suc j)) w → Of Q w ⊎ P j (graph T w) (view (merged T w)))
      (last : (w : Window) → MergingWindow T w → Of (P 0) w → Of Q w)
      (then : (w : Window) → MergingWindow T w → Of Q w → Rests T (k w) w) where
    phase : (j : ℕ) (w : Window) → MergingWindow T w → Of (P j) w → Rests T (j + k w) w
    phase zero w g p = later (k w) (0 + k w) w (omega arith) (then w g (last w g p))
    phase (suc j) w g p =
        ⊎_elim (λ q. later (k w) (suc j + k w) w (omega arith) (then w g q))
        (λ x.
        let q = same w in
        let n : suc (j + k (merged T w)) ≤ suc j + k w = omega arith in
        later (suc (j + k (merged T w))) (suc j + k w) w n (one_more (j + k (merged T w)) w (λ e. phase j (merged T w) (going_on w g e) (carried (P j) w x))))
        (step w g j p)

  size_same : (w : Window) → size (merged T w) ≡ size w
  unfolding merged
  size_same w = refl

  -- the last step
  quiet : (w : Window) → MergingWindow T w → Of (Activity 0) w → Rests T 1 w
  unfolding merged
  quiet w g a =
      let b = activity-end (graph T w) (laws T w S g.kept) (view w) g.inv (view (merged T w)) (busy T w) (moves T S w g.kept g.inv) a in
      let e : (merged T w).stage ≡ Rest = if-false (any (size w) (λ i. (step_at T w i).busy)) Merging Rest (any-not (busy T w) (size w) b) in
      λ made. ap (λ (r : Ran). r.rest) (steps-rest T made w 0 (ap is_rest e))

  module _ (w : Window) (g : MergingWindow T w) where
    abbrev L : Laws (graph T w)
    L = laws T w S g.kept

    abbrev s' : State
    s' = view (merged T w)

    abbrev moved : MergingStep (graph T w) (view w) s' (busy T w)
    moved = moves T S w g.kept g.inv

  abbrev N : Window → ℕ
  N w = size w

  from-gathered : (w : Window) → MergingWindow T w → Of Gathered w → Rests T (suc (N w) + 1) w
  from-gathered w g h =
      phase Activity (Activity 0) (λ v. 1) (λ v. refl)
      (λ v g j a. inr (activity-step (graph T v) (L v g) (view v) g.inv (s' v g) (busy T v) (moved v g) j a))
      (λ v g a. a) quiet (suc (N w)) w g (activity-start (graph T w) (view w) h)

  from_lowest : (w : Window) → MergingWindow T w → Of AllLowest w → Rests T (N w + (suc (N w) + 1)) w
  from_lowest w g h =
      phase Defects Gathered (λ v. suc (N v) + 1) (λ v. ap (λ (n : ℕ). suc n + 1) (size_same v))
      (λ v g j d. inr (defects-step (graph T v) (L v g) (view v) g.inv (s' v g) (busy T v) (moved v g) j d))
      (λ v g d. defects-end (graph T v) (L v g) (view v) g.inv d)
      from-gathered (N w) w g (defects-start (graph T w) (L w g) (view w) g.inv h)

  from-numbered : (w : Window) → MergingWindow T w → Of AllNumbered w → Rests T (N w + (N w + (suc (N w) + 1))) w
  from-numbered w g h =
      phase Levels AllLowest (λ v. N v + (suc (N v) + 1)) (λ v. ap (λ (n : ℕ). n + (suc n + 1)) (size_same v))
      (λ v g j d. inr (levels-step (graph T v) (L v g) (view v) (s' v g) (busy T v) (moved v g) j d))
      (λ v g d. levels-end (graph T v) (L v g) (view v) d)
      from_lowest (N w) w g (levels-start (graph T w) (view w) h)

  from-any : (w : Window) → MergingWindow T w → Rests T (N w + (N w + (N w + (suc (N w) + 1)))) w
  from-any w g =
      phase Resets AllNumbered (λ v. N v + (N v + (suc (N v) + 1))) (λ v. ap (λ (n : ℕ). n + (n + (suc n + 1))) (size_same v))
      (λ v g j d. resets_step (graph T v) (view v) g.inv (s' v g) (busy T v) (moved v g) j d)
      (λ v g d. resets_none (graph T v) (view v) g.inv d)
      from-numbered (N w) w g (omega arith)

  pub comes-to-rest : (w : Window) → MergingWindow T w → (most : ℕ) → 4 * size w + 2 ≤ most → Rests T most w
  comes-to-rest w g most l = later (N w + (N w + (N w + (suc (N w) + 1)))) most w (omega arith) (from-any w g)
