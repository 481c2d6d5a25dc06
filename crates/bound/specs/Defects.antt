-- PHASE 3: pointers stand still, and every defect that is not on a root comes one pointer nearer to one. Assumes nothing.
use Rattle.std.specs.Prelude.{ℕ, suc, ◌<◌, ◌≡◌, Bool, true}
use Rattle.std.proofs.Common.{subst}
use Rattle.law_holds.specs.Graph.{Graph, Laws, State, Inv, hot}
use Rattle.law_holds.specs.Syncing.{OnRoots}
use Rattle.bound.specs.MergingStep.{Source, own, sent, MergingStep}
use Rattle.bound.specs.Levels.{AllLowest, lowest-pointer, lowest-on}
use Rattle.bound.specs.Depth.{rooted-inv, root_within, within-centre, within-zero, within-along, pointed-lt, within_same, depth}

-- every defect is at most j pointers from a root
pub record Defects (j : ℕ) (g : Graph) (s : State) : Type 0 where
  pub lowest : AllLowest g s
  pub near : (v : ℕ) → v < g.n → hot g s v ≡ true → root_within g s j v ≡ true

-- it is on one
pub record Gathered (g : Graph) (s : State) : Type 0 where
  pub lowest : AllLowest g s
  pub roots : OnRoots g s

module _ (g : Graph) (L : Laws g) (s : State) (I : Inv g s) where
  pub defects-start : AllLowest g s → Defects g.n g s
  defects-start a = record { lowest = a; near = λ v l h. depth g s L (rooted-inv g s I) v l }

  pub defects-end : Defects 0 g s → Gathered g s
  defects-end d = record { lowest = d.lowest; roots = λ v l h. within-zero g s v (d.near v l h) }

  pub defects-step : (s' : State) (busy : ℕ → Bool) → MergingStep g s s' busy → (j : ℕ) → Defects (suc j) g s → Defects j g s'
  defects-step s' busy step j d =
      record {
        lowest = lowest-on g L s s' busy step d.lowest;
        near = λ v l h. within_same g s s' (pointed-lt g s L (rooted-inv g s I)) (lowest-pointer g L s s' busy step d.lowest) j v l (was v ((step v l).source h));
      }
    where
      was : (v : ℕ) → Source g s v → root_within g s j v ≡ true
      was v (own h e) = within-centre g s j v e
      was v (sent x) = subst (λ (u : ℕ). root_within g s j u ≡ true) x.here (within-along g s j x.from x.points (d.near x.from x.inside x.is_hot))
