-- PHASE 1: every step that starts with a reset node unroots a node, and none is rooted again. Assumes nothing.
use Rattle.std.specs.Prelude.{ℕ, suc, ◌+◌, ◌≤◌, ◌<◌, ◌≡◌, refl, Bool, true, ◌⊎◌}
use Rattle.std.proofs.Common.{arith, sym, ◌∙◌, inl, inr, ⊎_elim}
use Rattle.refusal.specs.Laws.{undone}
use Rattle.window.specs.declared.Mark.{Mark}
use Rattle.window.specs.declared.Mark.TheVariants.{Reset, Root}
use Rattle.law_holds.specs.Graph.{Graph, State, Inv}
use Rattle.law_holds.specs.Turn.{Turns, woke, cut, stayed, took}
use Rattle.bound.specs.Count.{count, count-full, count-grows}
use Rattle.bound.specs.MergingStep.{MergingStep}

-- no node is reset
abbrev pub AllNumbered : Graph → State → Type 0
AllNumbered g s = (v : ℕ) → v < g.n → (m : ℕ) × (s.mark v ≡ Root m)

-- all but j nodes are unrooted
abbrev pub Resets : ℕ → Graph → State → Type 0
Resets j g s = g.n ≤ count g.n s.unrooted + j

module _ (g : Graph) (s : State) (I : Inv g s) where
  -- where only unrooted nodes are left, none is reset
  numbered : ((v : ℕ) → v < g.n → s.mark v ≡ Reset → s.unrooted v ≡ true) → AllNumbered g s
  numbered h v l = go (s.mark v) refl
    where
      go : (k : Mark) → s.mark v ≡ k → (m : ℕ) × (s.mark v ≡ Root m)
      go Reset e = absurd (undone (sym (h v l e) ∙ I.reset-rooted v l e))
      go (Root m) e = (m, e)

  pub resets_none : Resets 0 g s → AllNumbered g s
  resets_none h = numbered (λ v l e. count-full s.unrooted g.n (omega arith) v l)

  module _ (s' : State) (busy : ℕ → Bool) (step : MergingStep g s s' busy) where
    -- what is unrooted stays so
    stays : (v : ℕ) → s.unrooted v ≡ true → Turns g s s' busy v → s'.unrooted v ≡ true
    stays v e (woke x) = x.unrooted
    stays v e (cut x) = absurd (undone (sym e ∙ x.rooted))
    stays v e (stayed x) = x.unrooted ∙ e
    stays v e (took x) = x.unrooted ∙ e

    -- what is reset becomes so
    wakes : (v : ℕ) → s.mark v ≡ Reset → Turns g s s' busy v → s'.unrooted v ≡ true
    wakes v e (woke x) = x.unrooted
    wakes v e (cut x) = cc
    wakes v e (stayed x) = cc
    wakes v e (took x) = cc

    pub resets_step : (j : ℕ) → Resets (suc j) g s → AllNumbered g s ⊎ Resets j g s'
    resets_step j h =
        ⊎_elim
        (λ same. inl (numbered (λ v l e. same v l (wakes v e (step v l).turn))))
        (λ less. inr (omega arith))
        (count-grows s.unrooted s'.unrooted g.n (λ v l e. stays v e (step v l).turn))
