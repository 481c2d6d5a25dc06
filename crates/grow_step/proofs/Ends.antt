-- BOTH ENDS OF AN EDGE by a right plan: the edge that a node has in a direction is no other node's, but for the one over it, in the direction
-- back. Assumes nothing.
use Prim.Native.Nat.{ℕ, ◌+◌, ◌-◌, ◌≤◌, ◌<◌}
use native.Mathlib.Omega.{arith}
use mathlib.Core.Path.{◌≡◌, sym, ◌∙◌, ap}
use mathlib.Core.Bool.{Bool, true, false, not}
use mathlib.Core.Logic.{◌⊎◌, inl, inr}
use lib.ListN.{length}
use Rattle.refusal.specs.Laws.{undone}
use Rattle.shape.specs.Choice.{if-true, if-false, whether}
use Rattle.steps.specs.Offsets.{back_by, on_by}
use Rattle.steps.specs.Proper.{Points, Reversed}
use Rattle.steps.specs.Steps.{Table, step}
use Rattle.steps.specs.Suited.{Suited, namer-names}
use Rattle.steps.specs.declared.Step.{Step}
use Rattle.flat.specs.Entries.{cell, over_by}
use Rattle.flat.specs.Plan.{Plan}
use Rattle.shows.specs.Planned.{Planned}

-- a cell is of one kind and one entry
cell_same : (a b x y : ℕ) → x < 4608 → y < 4608 → cell a x ≡ cell b y → (a ≡ b) × (x ≡ y)
cell_same a b x y l m e = (omega arith, omega arith)

back-offset : (h d : ℕ) (s t : Step) → Reversed s t → (back_by h d t ≡ on_by h d s) × (on_by h d t ≡ back_by h d s)
back-offset h d s t r = (rw (r.sheet, r.row, r.column), rw (r.sheet, r.row, r.column))

module _ (T : Table) (S : Suited T) (h d : ℕ) (P : Plan) (N : Planned T h d P) where
  abbrev kind_of : ℕ → ℕ
  kind_of k = (step T (k + 1)).kind

  abbrev own_of : ℕ → Bool
  own_of k = (step T (k + 1)).own

  way : (k : ℕ) → k < P.dirs → k < length T.steps
  way k m = omega (arith, N.dirs)

  pointer : (k : ℕ) → k < P.dirs → Points T (k + 1)
  pointer k m = let l = way k m in (omega arith, omega arith)

  -- a direction and the one back
  pub record Back (k k' : ℕ) : Type 0 where
    pub low : k' < P.dirs
    pub is : k' + 1 ≡ (step T (k + 1)).back
    pub far : P.off k + P.off k' ≡ 1024
    pub kind : (step T (k' + 1)).kind ≡ (step T (k + 1)).kind
    pub own : (step T (k' + 1)).own ≡ not (step T (k + 1)).own

  back_is : (k k' : ℕ) → k < P.dirs → k' + 1 ≡ (step T (k + 1)).back → Back k k'
  back_is k k' m e =
      let O = S.proper.opposed (k + 1) (pointer k m) in
      let b = O.back in
      let b0 = b.0 in
      let b1 = b.1 in
      let dirs = N.dirs in
      let low : k' < P.dirs = omega arith in
      let r : Reversed (step T (k + 1)) (step T (k' + 1)) = rw e O.reversed in
      let v = back-offset h d (step T (k + 1)) (step T (k' + 1)) r in
      let v0 = v.0 in
      let v1 = v.1 in
      let o = N.offs k (way k m) in
      let o' = N.offs k' (way k' low) in
      record { low = low; is = e; far = omega arith; kind = r.kind; own = r.own }

  module _ (x k : ℕ) (lo : 512 ≤ x) (hi : x < 4112) (m : k < P.dirs) where
    -- where its edge stands: at its own entry, or at its neighbour's
    pub at_own : own_of k ≡ true → over_by x (P.slot k) ≡ cell (kind_of k) x
    at_own o = let s = N.slots k (way k m) ∙ ap (λ (y : ℕ). cell (kind_of k) y) (if-true (own_of k) 512 (P.off k) o) in omega arith

    pub at_other : own_of k ≡ false → over_by x (P.slot k) ≡ cell (kind_of k) (over_by x (P.off k))
    at_other o = let s = N.slots k (way k m) ∙ ap (λ (y : ℕ). cell (kind_of k) y) (if-false (own_of k) 512 (P.off k) o) in omega arith

    pub near : over_by x (P.off k) < 4608
    near = let q = N.most k (way k m) in omega arith

  -- THE SAME EDGE
  module _ (x k y k' : ℕ) (lo : 512 ≤ x) (hi : x < 4112) (m : k < P.dirs) (lo' : 512 ≤ y) (hi' : y < 4112) (m' : k' < P.dirs) (e : over_by x (P.slot k) ≡ over_by y (P.slot k')) where
    abbrev Same : Type 0
    Same = (k ≡ k') × (x ≡ y)

    abbrev Opposite : Type 0
    Opposite = Back k k' × (x ≡ over_by y (P.off k')) × (y ≡ over_by x (P.off k))

    one_way : kind_of k ≡ kind_of k' → own_of k ≡ own_of k' → Same
    one_way s o =
        let q : k + 1 ≡ k' + 1 = S.proper.named (k + 1) (k' + 1) (pointer k m) (pointer k' m') s o in
        let z : k ≡ k' = omega arith in
        let f : over_by x (P.slot k') ≡ over_by y (P.slot k') = ap (λ (j : ℕ). over_by x (P.slot j)) (sym z) ∙ e in
        (z, omega arith)

    -- a direction with the kind and the other end's name is the one back
    back_to : kind_of k ≡ kind_of k' → own_of k' ≡ not (own_of k) → Back k k'
    back_to s o =
        let O = S.proper.opposed (k + 1) (pointer k m) in
        back_is k k' m (S.proper.named (k' + 1) (step T (k + 1)).back (pointer k' m') O.back (sym s ∙ sym O.reversed.kind) (o ∙ sym O.reversed.own))

    both_own : own_of k ≡ true → own_of k' ≡ true → Same
    both_own o o' =
        let c = cell_same (kind_of k) (kind_of k') x y (omega arith) (omega arith) (sym (at_own x k lo hi m o) ∙ e ∙ at_own y k' lo' hi' m' o') in
        one_way c.0 (o ∙ sym o')

    none-own : own_of k ≡ false → own_of k' ≡ false → Same
    none-own o o' =
        let c = cell_same (kind_of k) (kind_of k') (over_by x (P.off k)) (over_by y (P.off k')) (near x k lo hi m) (near y k' lo' hi' m') (sym (at_other x k lo hi m o) ∙ e ∙ at_other y k' lo' hi' m' o') in
        one_way c.0 (o ∙ sym o')

    first-own : own_of k ≡ true → own_of k' ≡ false → Opposite
    first-own o o' =
        let c = cell_same (kind_of k) (kind_of k') x (over_by y (P.off k')) (omega arith) (near y k' lo' hi' m') (sym (at_own x k lo hi m o) ∙ e ∙ at_other y k' lo' hi' m' o') in
        let b = back_to c.0 (o' ∙ ap not (sym o)) in
        let f = b.far in
        let c1 = c.1 in
        (b, c1, omega arith)

    second-own : own_of k ≡ false → own_of k' ≡ true → Opposite
    second-own o o' =
        let c = cell_same (kind_of k) (kind_of k') (over_by x (P.off k)) y (near x k lo hi m) (omega arith) (sym (at_other x k lo hi m o) ∙ e ∙ at_own y k' lo' hi' m' o') in
        let b = back_to c.0 (o' ∙ ap not (sym o)) in
        let f = b.far in
        let c1 = c.1 in
        (b, omega arith, sym c1)

    pub same-edge : Same ⊎ Opposite
    same-edge =
        whether (own_of k)
        (λ o. whether (own_of k') (λ o'. inl (both_own o o')) (λ o'. inr (first-own o o')))
        (λ o. whether (own_of k') (λ o'. inr (second-own o o')) (λ o'. inl (none-own o o')))

  -- THE EDGE THAT A NODE NAMES of a kind
  module _ (kind : ℕ) (m : kind < T.kinds) where
    pub named-low : P.namer kind < P.dirs
    named-low = let n = (namer-names T S kind m).pointer in let hi = n.1 in let e = N.namers kind m in let q = N.dirs in omega arith

    pub named-own : own_of (P.namer kind) ≡ true
    named-own = ap (λ (p : ℕ). (step T p).own) (N.namers kind m) ∙ (namer-names T S kind m).own

    pub named-kind : kind_of (P.namer kind) ≡ kind
    named-kind = ap (λ (p : ℕ). (step T p).kind) (N.namers kind m) ∙ (namer-names T S kind m).same

    pub named-at : (x : ℕ) → 512 ≤ x → x < 4112 → over_by x (P.slot (P.namer kind)) ≡ cell kind x
    named-at x lo hi = at_own x (P.namer kind) lo hi named-low named-own ∙ ap (λ (j : ℕ). cell j x) named-kind

    -- and the direction back
    abbrev pub back-way : ℕ
    back-way = (step T (P.namer kind + 1)).back - 1

    pub named_back : Back (P.namer kind) back-way
    named_back =
        let b = (S.proper.opposed (P.namer kind + 1) (pointer (P.namer kind) named-low)).back in
        let b0 = b.0 in
        back_is (P.namer kind) back-way named-low (omega arith)

    pub apart : P.namer kind ≡ back-way → ⊥
    apart e =
        let o : own_of back-way ≡ not (own_of (P.namer kind)) = named_back.own in
        let a : own_of (P.namer kind) ≡ not (own_of (P.namer kind)) = ap own_of e ∙ o in
        undone (sym named-own ∙ a ∙ ap not named-own)
