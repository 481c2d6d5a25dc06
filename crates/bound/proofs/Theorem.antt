-- MERGING COMES TO REST: the proof. Assumes nothing.
use Rattle.std.specs.Prelude.{ℕ, ◌+◌, ◌*◌, ◌≤◌, ◌≡◌, false}
use Rattle.std.proofs.Common.{arith, sym, ◌∙◌, subst}
use Rattle.std.proofs.Math.Path.{refl, ap}
use Rattle.std.proofs.Math.Bool.{true, not}
use mathlib.Core.List.{List, [], ◌∷◌}
use Rattle.std.proofs.lemmas.Bool.{not-true}
use Rattle.refusal.specs.Answer.{Answer, done, value_or}
use Rattle.refusal.specs.Laws.{undone}
use Rattle.refusal.specs.Tests.{pass-none, pass-one}
use Rattle.shape.proofs.Ranges.{shape-accepted}
use Rattle.shape.specs.Sizes.{IsShape, nodes_of, shape_by}
use Rattle.shape.specs.declared.Shape.{Shape}
use Rattle.steps.specs.Steps.{Table, base}
use Rattle.steps.specs.Moves.{Move, Steps, table_of}
use Rattle.steps.specs.Suited.{Suited}
use Rattle.steps.proofs.Suits.{suited}
use Rattle.steps.specs.Models.{circuit, of_model}
use Rattle.steps.proofs.Models.{suited-base, suited-circuit, suited-model}
use Rattle.window.specs.Window.{is_rest, is_to_grow, is_merging}
use Rattle.window.specs.Formed.{well_formed}
use Rattle.window.specs.Fresh.{fresh_window}
use Rattle.window.specs.Grow.{grown}
use Rattle.window.specs.Run.{ran}
use Rattle.window.specs.LawsRun.{ran-grown, ran-merging, ran-count}
use Rattle.window.specs.Calls.{run_call}
use Rattle.window.proofs.LawsFresh.{started}
use Rattle.window.specs.declared.Ran.{Ran}
use Rattle.window.specs.declared.Stage.{Stage}
use Rattle.window.specs.declared.Stage.TheVariants.{Rest, ToGrow, Merging}
use Rattle.window.specs.declared.Window.{Window}
use Rattle.closure.specs.Done.{staged}
use Rattle.law.specs.Law.{Call, play, start}
use Rattle.bound.specs.Bound.{bound_of, step_bound, ComesToRest, Bounded, MergingRests}
use Rattle.bound.specs.Runs.{run-larger}
use Rattle.bound.specs.Reachable.{Reachable, reachable-fresh, reachable-calls, reachable-rests, grown-rests}
use Rattle.bound.proofs.Stages.{bounded-calls}

-- no less than the phases take
enough : (sh : Shape) → 4 * nodes_of sh.height sh.distance + 2 ≤ bound_of sh
enough sh = omega arith

module _ (T : Table) (S : Suited T) (sh : Shape) where
  -- A WINDOW NOT AT REST

  run-rests : (w : Window) → Reachable T sh w → is_rest w.stage ≡ false → (ran T (bound_of sh) w).rest ≡ true
  unfolding grown
  run-rests w r st = go w.stage refl
    where
      go : (x : Stage) → w.stage ≡ x → (ran T (bound_of sh) w).rest ≡ true
      go Rest e = absurd (undone (sym (ap is_rest e) ∙ st))
      go ToGrow e = rw (ran-grown T (bound_of sh) w (ap is_to_grow e)) (grown-rests T S sh (bound_of sh) (enough sh) w r (ap is_to_grow e) 0)
      go Merging e = rw (ran-merging T (bound_of sh) w (ap is_to_grow e)) (reachable-rests T S sh (bound_of sh) (enough sh) w r (ap is_merging e) 0)

  rests-from : (w : Window) → Reachable T sh w → is_rest w.stage ≡ false → ComesToRest T (bound_of sh) w
  unfolding run_call
  rests-from w r st =
      let same : (budget : ℕ) → bound_of sh ≤ budget → ran T budget w ≡ ran T (bound_of sh) w = λ budget l. run-larger T (bound_of sh) budget w l (run-rests w r st) in
      record {
        accepted = λ budget.
            pass-one (well_formed T w) 21 ((not (is_rest w.stage), 22) ∷ []) r.kept.formed (pass-one (not (is_rest w.stage)) 22 [] (ap not st) pass-none) Ran (done (ran T budget w) 0);
        rests = λ budget l. ap (λ (v : Ran). v.rest) (same budget l) ∙ run-rests w r st;
        steps = λ budget l. rw (same budget l) (ran-count T (bound_of sh) w);
        same = same;
      }

  -- a run that is done
  pub run-done : (w : Window) → Reachable T sh w → (budget : ℕ) (v : Ran) (z : ℕ) → run_call T w budget ≡ done v z → (ran T budget w ≡ v) × ComesToRest T (bound_of sh) w
  unfolding run_call
  run-done w r budget v z e = let x = staged T w (not (is_rest w.stage)) (ran T budget w) v z e in (x.value, rests-from w r (not-true _ x.staged))

  -- FROM THE FRESH WINDOW

  bounded : IsShape sh → (calls : List Call) → Bounded T (bound_of sh) (fresh_window T sh) calls
  unfolding fresh_window
  bounded range calls =
      let w = fresh_window T sh in
      let f = reachable-fresh T S sh range in
      let v = (play T (start w) calls).window in
      record {
        rests = λ st. rests-from v (reachable-calls T S sh w f calls) st;
        stages = bounded-calls T S sh (bound_of sh) (enough sh) calls w f 0 (record { steps = omega arith; rests = λ m. absurd (undone (sym m)) });
      }

-- the bound of a shape that is not refused
bound-is : (sh : Shape) → IsShape sh → step_bound sh.height sh.distance sh.model ≡ bound_of sh
bound-is sh range = ap (λ (a : Answer Shape). value_or a bound_of 0) (shape-accepted sh range)

module _ (T : Table) (S : Suited T) where
  holds : MergingRests T
  holds h d m largest_height largest_distance w n e calls =
      let x = started T h d m largest_height largest_distance w n e in
      let sh : Shape = shape_by h d m in
      rw (bound-is sh x.range) (subst (λ (u : Window). Bounded T (bound_of sh) u calls) x.value (bounded T S sh x.range calls))

-- every table of distinct non-zero steps, at most one sheet up or down, in which each has its opposite
pub merging-rests : (ms : List Move) → Steps ms → MergingRests (table_of ms)
merging-rests ms M = holds (table_of ms) (suited ms M)

-- both models, by their written-out tables; and so every window's, by its model
pub merging-rests-0 : MergingRests base
merging-rests-0 = holds base suited-base

pub merging-rests-1 : MergingRests circuit
merging-rests-1 = holds circuit suited-circuit

pub merging-rests-model : (m : ℕ) → MergingRests (of_model m)
merging-rests-model m = holds (of_model m) (suited-model m)
