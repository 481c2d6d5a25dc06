-- The tables of steps that the laws hold for, and the direction in which a node names its edge of a kind: the one that the table says. Assumes nothing.
use Rattle.std.specs.Prelude.{ℕ, suc, ◌+◌, ◌≤◌, ◌<◌, ◌≡◌, refl, Bool, true, false, ◌&&◌, not, List, [], ◌∷◌, eqb, length, get_or}
use Rattle.std.proofs.Common.{arith, sym, ◌∙◌, ap, subst, eqb-true}
use Rattle.shape.proofs.Ranges.{halves}
use Rattle.steps.specs.Steps.{Table, step, here, stays, naming, namer}
use Rattle.steps.specs.Proper.{Points, Proper}
use Rattle.steps.specs.declared.Step.{Step}

-- Every kind of edge has a direction in which it is named, and that does not go down: what falls one sheet with the end that names it keeps its edge
pub record Suited (T : Table) : Type 0 where
  pub proper : Proper T
  pub named : (kind : ℕ) → kind < T.kinds → 1 ≤ namer T kind
  pub upwards : (kind : ℕ) → kind < T.kinds → (step T (namer T kind)).sheet.more ≤ (step T (namer T kind)).sheet.less

-- what is found, from direction p on, is a step that names its edge of the kind
pub record NamedAt (sts : List Step) (kind p n : ℕ) : Type 0 where
  pub place : ℕ
  pub is : n ≡ p + place
  pub within : place < length sts
  pub own : (get_or sts place here).own ≡ true
  pub same : (get_or sts place here).kind ≡ kind

pub naming-at : (sts : List Step) (kind p : ℕ) → 1 ≤ naming sts kind p → NamedAt sts kind p (naming sts kind p)
unfolding naming
naming-at [] kind p l = absurd (omega arith)
naming-at (st ∷ sts) kind p l = go (st.own && eqb st.kind kind) refl (λ e. naming-at sts kind (suc p) e)
  where
    go : (b : Bool) → (st.own && eqb st.kind kind) ≡ b → (1 ≤ naming sts kind (suc p) → NamedAt sts kind (suc p) (naming sts kind (suc p))) → NamedAt (st ∷ sts) kind p (naming (st ∷ sts) kind p)
    go true e rec =
        let a = halves _ _ e in
        record { place = 0; is = rw (e, naming) (omega arith); within = omega arith; own = a.0; same = eqb-true _ _ a.1 }
    go false e rec =
        let f = rec (rw (e, naming) at l) in
        record { place = suc f.place; is = rw (e, naming) (omega (arith, f.is)); within = omega (arith, f.within); own = f.own; same = f.same }

-- a direction in which edges are named
pub record Names (T : Table) (kind p : ℕ) : Type 0 where
  pub pointer : Points T p
  pub own : (step T p).own ≡ true
  pub same : (step T p).kind ≡ kind

module _ (T : Table) (S : Suited T) where
  pub namer-names : (kind : ℕ) → kind < T.kinds → Names T kind (namer T kind)
  namer-names kind l =
      let f = naming-at T.steps kind 1 (S.named kind l) in
      let e : suc f.place ≡ namer T kind = omega (arith, f.is) in
      subst (λ (p : ℕ). Names T kind p) e (record { pointer = (omega arith, omega (arith, f.within)); own = f.own; same = f.same })

  -- it is the only one
  pub namer-is : (p : ℕ) → Points T p → (step T p).own ≡ true → namer T (step T p).kind ≡ p
  namer-is p i o =
      let n = namer-names (step T p).kind (S.proper.opposed p i).kind in
      S.proper.named (namer T (step T p).kind) p n.pointer i n.same (n.own ∙ sym o)

  -- and from the other end the opposite one
  pub namer-back : (p : ℕ) → Points T p → (step T p).own ≡ false → namer T (step T p).kind ≡ (step T p).back
  namer-back p i o =
      let O = S.proper.opposed p i in
      ap (λ (k : ℕ). namer T k) (sym O.reversed.kind) ∙ namer-is (step T p).back O.back (O.reversed.own ∙ ap not o)

  pub namer-moves : (kind : ℕ) → kind < T.kinds → stays (step T (namer T kind)) ≡ false
  namer-moves kind l = (S.proper.opposed (namer T kind) (namer-names kind l).pointer).moves
