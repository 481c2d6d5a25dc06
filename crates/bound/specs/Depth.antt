-- THE DEPTH OF A NODE: how many pointers lead from it to a root. They are fewer than n. Assumes nothing.
use Prim.Native.Nat.{ℕ, zero, suc, ◌-◌, ◌≤◌, ◌<◌}
use Rattle.std.proofs.Common.{arith, sym, ◌∙◌, inl, inr, ⊎_elim}
use Rattle.std.specs.Prelude.{◌≡◌, Bool, true, ◌||◌, ◌⊎◌, eqb}
use borrow.Author.Tests.{eqb-true, eq-eqb}
use Rattle.refusal.specs.Laws.{undone}
use Rattle.shape.specs.Choice.{whether}
use Rattle.closure.specs.Lists.{either, other, choice}
use Rattle.law_holds.specs.Graph.{Graph, Laws, State, Chain, here, via, Inv, Calm, Points, pointed}
use Rattle.bound.specs.Count.{count, count-some, count-full, count-grows}

-- every pointer goes over an open edge, and following them one comes to a root
pub record Rooted (g : Graph) (s : State) : Type 0 where
  pub opn : (v : ℕ) → v < g.n → Points g s v → g.opn v (s.pointer v) ≡ true
  pub chain : (v : ℕ) → v < g.n → (r : ℕ) × Chain g s v r

-- while clusters merge, and at rest
pub rooted-inv : (g : Graph) (s : State) → Inv g s → Rooted g s
rooted-inv g s I = record { opn = I.pointer-opn; chain = I.chain }

pub rooted-calm : (g : Graph) (s : State) → Calm g s → Rooted g s
rooted-calm g s C = record { opn = λ v l p. (C v l).opn p; chain = λ v l. ((C v l).root, (C v l).chain) }

module _ (g : Graph) (s : State) where
  -- a root, or not
  pub at-root : {A : Type 0} (v : ℕ) → (s.pointer v ≡ 0 → A) → (Points g s v → A) → A
  at-root v a b = whether (eqb (s.pointer v) 0) (λ e. a (eqb-true _ _ e)) (λ e. b (λ q. undone (sym (eq-eqb (s.pointer v) 0 q) ∙ e)))

  -- at most j pointers lead from v to a root
  unfoldable pub root_within : ℕ → ℕ → Bool
  root_within zero v = eqb (s.pointer v) 0
  root_within (suc j) v = eqb (s.pointer v) 0 || root_within j (pointed g s v)

  pub within-centre : (j v : ℕ) → s.pointer v ≡ 0 → root_within j v ≡ true
  unfolding root_within
  within-centre zero v e = eq-eqb _ _ e
  within-centre (suc j) v e = either _ _ (eq-eqb _ _ e)

  within-pointed : (j v : ℕ) → root_within j (pointed g s v) ≡ true → root_within (suc j) v ≡ true
  unfolding root_within
  within-pointed j v e = other (eqb (s.pointer v) 0) _ e

  pub within-zero : (v : ℕ) → root_within 0 v ≡ true → s.pointer v ≡ 0
  unfolding root_within
  within-zero v e = eqb-true _ _ e

  pub within-along : (j v : ℕ) → Points g s v → root_within (suc j) v ≡ true → root_within j (pointed g s v) ≡ true
  unfolding root_within
  within-along j v p e = choice (eqb (s.pointer v) 0) (root_within j (pointed g s v)) e (λ z. absurd (p (eqb-true _ _ z))) (λ z. z)

  within_more : (j v : ℕ) → root_within j v ≡ true → root_within (suc j) v ≡ true
  within_more zero v e = within-centre 1 v (within-zero v e)
  within_more (suc j) v e = at-root v (λ z. within-centre (suc (suc j)) v z) (λ p. within-pointed (suc j) v (within_more j (pointed g s v) (within-along j v p e)))

  module _ (L : Laws g) (R : Rooted g s) where
    pub pointed-lt : (v : ℕ) → v < g.n → Points g s v → pointed g s v < g.n
    pointed-lt v l p = L.within v (s.pointer v) l (R.opn v l p)

    -- if one pointer more reaches a root from no other node, all are reached
    all_end : (j : ℕ) → ((v : ℕ) → v < g.n → root_within (suc j) v ≡ true → root_within j v ≡ true) → {v r : ℕ} → Chain g s v r → v < g.n → root_within j v ≡ true
    all_end j same (here {v = v} e) l = within-centre j v e
    all_end j same (via {v = v} p c) l = same v l (within-pointed j v (all_end j same c (pointed-lt v l p)))

    -- there is a root
    some-root : {v r : ℕ} → Chain g s v r → v < g.n → 1 ≤ count g.n (root_within 0)
    some-root (here {v = v} e) l = count-some (root_within 0) g.n v l (within-centre 0 v e)
    some-root (via {v = v} p c) l = some-root c (pointed-lt v l p)

    -- each pointer more reaches a root from one node more, until from all
    reached : (v : ℕ) → v < g.n → (j : ℕ) → ((u : ℕ) → u < g.n → root_within j u ≡ true) ⊎ (j < count g.n (root_within j))
    reached v l zero = inr (some-root (R.chain v l).1 l)
    reached v l (suc j) =
        ⊎_elim (λ a. inl (λ u m. within_more j u (a u m)))
        (λ n.
        ⊎_elim (λ same. inl (λ u m. within_more j u (all_end j same (R.chain u m).1 m))) (λ less. inr (omega arith))
        (count-grows (root_within j) (root_within (suc j)) g.n (λ u m e. within_more j u e)))
        (reached v l j)

    -- fewer than n pointers
    pub depth_below : (v : ℕ) → v < g.n → root_within (g.n - 1) v ≡ true
    depth_below v l = ⊎_elim (λ a. a v l) (λ n. count-full (root_within (g.n - 1)) g.n (omega arith) v l) (reached v l (g.n - 1))

    pub depth : (v : ℕ) → v < g.n → root_within g.n v ≡ true
    depth v l = let q : suc (g.n - 1) ≡ g.n = omega arith in rw q at (within_more (g.n - 1) v (depth_below v l))

-- where pointers stand still
pub within_same : (g : Graph) (s s' : State) → ((v : ℕ) → v < g.n → Points g s v → pointed g s v < g.n) → ((v : ℕ) → v < g.n → s'.pointer v ≡ s.pointer v)
    → (j v : ℕ) → v < g.n → root_within g s j v ≡ true → root_within g s' j v ≡ true
within_same g s s' inside same zero v l e = within-centre g s' 0 v (same v l ∙ within-zero g s v e)
within_same g s s' inside same (suc j) v l e =
    at-root g s v (λ z. within-centre g s' (suc j) v (same v l ∙ z))
    (λ p.
    let a = within_same g s s' inside same j (pointed g s v) (inside v l p) (within-along g s j v p e) in
    within-pointed g s' j v (rw (pointed, same v l) a))
