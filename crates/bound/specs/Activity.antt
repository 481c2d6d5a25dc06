-- PHASE 4: every defect is on a root, and activity flows from the roots along the pointers, back to front. Then no node is busy. Assumes nothing.
use Prim.Native.Nat.{ℕ, zero, suc, ◌+◌, ◌<◌}
use Rattle.std.proofs.Common.{arith, sym, ◌∙◌, ap, eq-eqb, ne_eqb}
use Rattle.std.specs.Prelude.{◌≡◌, Bool, true, false, ◌&&◌, eqb}
use Rattle.std.proofs.Math.Path.{refl}
use Rattle.shape.specs.Choice.{if, if-true, if-false}
use Rattle.law_holds.specs.Graph.{Graph, Laws, State, Inv, hot, Points, pointed}
use Rattle.bound.specs.MergingStep.{MergingStep}
use Rattle.bound.specs.Levels.{Lowest, lowest-pointer, lowest-on}
use Rattle.bound.specs.Depth.{Rooted, rooted-inv, at-root, root_within, within-zero, within-along, within_same, pointed-lt, depth}
use Rattle.bound.specs.Defects.{Gathered}

module _ (g : Graph) (s : State) where
  -- whether the node at the end of j pointers is hot, or the root before it
  unfoldable pub hot_at : ℕ → ℕ → Bool
  hot_at zero v = hot g s v
  hot_at (suc j) v = if (eqb (s.pointer v) 0) (hot g s v) (hot_at j (pointed g s v))

  hot-centre : (j v : ℕ) → s.pointer v ≡ 0 → hot_at j v ≡ hot g s v
  unfolding hot_at
  hot-centre zero v e = refl
  hot-centre (suc j) v e = if-true (eqb (s.pointer v) 0) _ _ (eq-eqb _ _ e)

  hot-none : (v : ℕ) → hot_at 0 v ≡ hot g s v
  unfolding hot_at
  hot-none v = refl

  hot-along : (j v : ℕ) → Points g s v → hot_at (suc j) v ≡ hot_at j (pointed g s v)
  unfolding hot_at
  hot-along j v p = if-false (eqb (s.pointer v) 0) _ _ (ne_eqb _ _ p)

  -- past a root nothing changes
  hot-more : (j v : ℕ) → root_within g s j v ≡ true → hot_at (suc j) v ≡ hot_at j v
  hot-more zero v e = hot-centre 1 v (within-zero g s v e) ∙ sym (hot-centre 0 v (within-zero g s v e))
  hot-more (suc j) v e =
      at-root g s v (λ c. hot-centre (suc (suc j)) v c ∙ sym (hot-centre (suc j) v c))
      (λ p. hot-along (suc j) v p ∙ hot-more j (pointed g s v) (within-along g s j v p e) ∙ sym (hot-along j v p))

-- but for j steps, as far as the steps made have come every node is active if its root is hot
pub record Activity (j : ℕ) (g : Graph) (s : State) : Type 0 where
  pub gathered : Gathered g s
  pub right : (t : ℕ) → t + j ≡ g.n → (v : ℕ) → v < g.n → root_within g s t v ≡ true → s.active v ≡ hot_at g s t v

pub activity-start : (g : Graph) (s : State) → Gathered g s → Activity (suc g.n) g s
activity-start g s e = record { gathered = e; right = λ t q. absurd (omega arith) }

module _ (g : Graph) (L : Laws g) (s : State) (I : Inv g s) (s' : State) (busy : ℕ → Bool) (step : MergingStep g s s' busy) where
  abbrev rooted : Rooted g s
  rooted = rooted-inv g s I

  inside : (v : ℕ) → v < g.n → Points g s v → pointed g s v < g.n
  inside = pointed-lt g s L rooted

  -- WHERE EVERY DEFECT IS ON A ROOT no defect moves
  module _ (G : Gathered g s) where
    pointer-same : (v : ℕ) → v < g.n → s'.pointer v ≡ s.pointer v
    pointer-same = lowest-pointer g L s s' busy step G.lowest

    defect-same : (v : ℕ) → v < g.n → s'.defect v ≡ s.defect v
    defect-same v l = (step v l).stands G.roots

    hot-same : (v : ℕ) → v < g.n → hot g s' v ≡ hot g s v
    hot-same v l = ap (λ (b : Bool). g.det v && b) (defect-same v l)

    pointed-same : (v : ℕ) → v < g.n → pointed g s' v ≡ pointed g s v
    pointed-same v l = ap (g.nb v) (pointer-same v l)

    gathered-step : Gathered g s'
    gathered-step =
        record {
          lowest = lowest-on g L s s' busy step G.lowest;
          roots = λ v l h. pointer-same v l ∙ G.roots v l (sym (hot-same v l) ∙ h);
        }

    hot-at-same : (j v : ℕ) → v < g.n → hot_at g s' j v ≡ hot_at g s j v
    hot-at-same zero v l = hot-none g s' v ∙ hot-same v l ∙ sym (hot-none g s v)
    hot-at-same (suc j) v l =
        at-root g s v
        (λ c. hot-centre g s' (suc j) v (pointer-same v l ∙ c) ∙ hot-same v l ∙ sym (hot-centre g s (suc j) v c))
        (λ p.
        hot-along g s' j v (λ c. p (sym (pointer-same v l) ∙ c))
        ∙ ap (hot_at g s' j) (pointed-same v l)
        ∙ hot-at-same j (pointed g s v) (inside v l p)
        ∙ sym (hot-along g s j v p))

    within-was : (j v : ℕ) → v < g.n → root_within g s' j v ≡ true → root_within g s j v ≡ true
    within-was = within_same g s' s (λ v l p. rw (pointed-same v l) (inside v l (λ c. p (pointer-same v l ∙ c)))) (λ v l. sym (pointer-same v l))

  pub activity-step : (j : ℕ) → Activity (suc j) g s → Activity j g s'
  activity-step j a =
      record {
        gathered = gathered-step a.gathered;
        right = λ t q v l e. go t q v l (within-was a.gathered t v l e) ∙ sym (hot-at-same a.gathered t v l);
      }
    where
      go : (t : ℕ) → t + j ≡ g.n → (v : ℕ) → v < g.n → root_within g s t v ≡ true → s'.active v ≡ hot_at g s t v
      go zero q v l e = let c = within-zero g s v e in (step v l).centre c ∙ sym (hot-centre g s 0 v c)
      go (suc t) q v l e =
          at-root g s v (λ c. (step v l).centre c ∙ sym (hot-centre g s (suc t) v c))
          (λ p. (step v l).along p ∙ a.right t (omega arith) (pointed g s v) (inside v l p) (within-along g s t v p e) ∙ sym (hot-along g s t v p))

  pub activity-end : Activity 0 g s → (v : ℕ) → v < g.n → busy v ≡ false
  activity-end a v l = (step v l).idle low.m low.mark low.clear (a.gathered.roots v l) still
    where
      low : Lowest g s v
      low = a.gathered.lowest v l

      right : (u : ℕ) → u < g.n → s.active u ≡ hot_at g s g.n u
      right u m = a.right g.n (omega arith) u m (depth g s L rooted u m)

      still : s'.active v ≡ s.active v
      still =
          at-root g s v (λ c. (step v l).centre c ∙ sym (hot-centre g s g.n v c) ∙ sym (right v l))
          (λ p.
          (step v l).along p
          ∙ right (pointed g s v) (inside v l p)
          ∙ sym (hot-along g s g.n v p)
          ∙ hot-more g s g.n v (depth g s L rooted v l)
          ∙ sym (right v l))
