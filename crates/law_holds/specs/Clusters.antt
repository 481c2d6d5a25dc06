-- THE REST CLAUSE: what holds of the clusters in each stage, and that the rules keep it. Assumes nothing.
use Rattle.std.specs.Prelude.{ℕ, ◌≡◌, refl, true, false, List}
use Rattle.std.proofs.Common.{sym}
use Rattle.refusal.specs.Laws.{undone}
use Rattle.steps.specs.Steps.{Table}
use Rattle.shape.specs.declared.Shape.{Shape}
use Rattle.window.specs.Window.{is_rest, is_to_grow, is_merging}
use Rattle.window.specs.Fresh.{fresh_window}
use Rattle.window.specs.Round.{rounded}
use Rattle.window.specs.Measured.{measuring}
use Rattle.window.specs.Grow.{grown}
use Rattle.window.specs.Merging.{merged}
use Rattle.window.specs.declared.Stage.{Stage}
use Rattle.window.specs.declared.Stage.TheVariants.{Rest, ToGrow, Merging}
use Rattle.window.specs.declared.Window.{Window}
use Rattle.steps.specs.Suited.{Suited}
use Rattle.closure.specs.Merging.{merging-stage}
use Rattle.closure.specs.Closure.{Kept}
use Rattle.law.specs.Law.{Played, Rested, start}
use Rattle.law_holds.specs.Rules.{Invariant}
use Rattle.law_holds.specs.Graph.{graph, view, Inv, Calm}
use Rattle.law_holds.specs.Fallen.{Fallen, fallen-measured}
use Rattle.law_holds.specs.ClustersFresh.{fresh-calm}
use Rattle.law_holds.specs.ClustersRound.{round-fallen}
use Rattle.law_holds.specs.ClustersGrow.{grow-inv}
use Rattle.law_holds.specs.ClustersMerging.{merging-inv}
use Rattle.law_holds.specs.ClustersRest.{merging-calm}
use Rattle.law_holds.specs.Rested.{calm-rested}

-- by the stage
abbrev pub Settled : Table → Window → Stage → Type 0
Settled T w Rest = Calm (graph T w) (view w)
Settled T w ToGrow = Fallen T w
Settled T w Merging = Inv (graph T w) (view w)

abbrev pub Clustered : Table → Played → Type 0
Clustered T p = Settled T p.window p.window.stage

module _ (T : Table) (w : Window) where
  pub calm : (s : Stage) → is_rest s ≡ true → Settled T w s → Calm (graph T w) (view w)
  calm Rest e x = x
  calm ToGrow e x = absurd (undone (sym e))
  calm Merging e x = absurd (undone (sym e))

  fallen : (s : Stage) → is_to_grow s ≡ true → Settled T w s → Fallen T w
  fallen Rest e x = absurd (undone (sym e))
  fallen ToGrow e x = x
  fallen Merging e x = absurd (undone (sym e))

  pub held : (s : Stage) → is_merging s ≡ true → Settled T w s → Inv (graph T w) (view w)
  held Rest e x = absurd (undone (sym e))
  held ToGrow e x = absurd (undone (sym e))
  held Merging e x = x

  by-stage : (s : Stage) → (is_rest s ≡ true → Calm (graph T w) (view w)) → (is_rest s ≡ false → is_merging s ≡ true) → Inv (graph T w) (view w) → Settled T w s
  by-stage Rest c m i = c refl
  by-stage ToGrow c m i = absurd (undone (sym (m refl)))
  by-stage Merging c m i = i

settled-measured : (T : Table) (w : Window) (bytes : List ℕ) (s : Stage) → Settled T w s → Settled T (measuring w bytes) s
unfolding measuring
settled-measured T w bytes Rest x = x
settled-measured T w bytes ToGrow x = fallen-measured T w bytes x
settled-measured T w bytes Merging x = x

pub clustered-fresh : (T : Table) (sh : Shape) → Clustered T (start (fresh_window T sh))
unfolding fresh_window
clustered-fresh T sh = fresh-calm T sh

module _ (T : Table) (S : Suited T) where
  pub clustered : Invariant T (Clustered T)
  unfolding rounded grown measuring
  clustered =
      record {
        round = λ p defects k st bits i. round-fallen T S p.window defects k (calm T p.window p.window.stage st i);
        replace = λ p bytes i. settled-measured T p.window bytes p.window.stage i;
        grow = λ p k st i. grow-inv T p.window k (fallen T p.window p.window.stage st i);
        merging = λ p k st i.
            let h = held T p.window p.window.stage st i in
            by-stage T (merged T p.window) (merged T p.window).stage
            (λ e. merging-calm T S p.window k h e)
            (λ e. merging-stage T p.window e)
            (merging-inv T S p.window k h);
      }

  pub clustered-rested : (p : Played) → Kept T p.window → Clustered T p → is_rest p.window.stage ≡ true → Rested T p.window
  clustered-rested p k i st = calm-rested T S p.window k (calm T p.window p.window.stage st i)
