-- A BIT TURNED BY A NODE THAT SENDS: be the edge named by it or by the node at the other end, what it says of the correction bit is what the
-- rule makes of it. Assumes nothing.
use Rattle.std.specs.Prelude.{ℕ, ◌+◌, ◌-◌, ◌<◌, ◌≡◌, refl, Bool, true, false, not, eqb}
use Rattle.std.proofs.Common.{arith, sym, ◌∙◌, ap, ap₂, eq-eqb}
use Rattle.std.proofs.lemmas.Bool.{eqb-false, not-true}
use Rattle.shape.specs.Choice.{if, whether}
use Rattle.shape.proofs.Ranges.{halves, both}
use Rattle.steps.specs.Proper.{Opposed}
use Rattle.steps.specs.Steps.{Table, step, namer}
use Rattle.steps.specs.Suited.{Suited, namer-is, namer-back}
use Rattle.window.specs.Lists.{xor}
use Rattle.window.specs.Window.{is_merging, size, to}
use Rattle.window.specs.declared.Window.{Window}
use Rattle.closure.specs.Closure.{Kept}
use Rattle.closure.specs.Facts.{Facts, facts, node-within}
use Rattle.closure.specs.Sized.{size-le}
use Rattle.closure.specs.Ways.{direction, there_back, node-back}
use Rattle.flat.specs.Codes.{no_edge}
use Rattle.flat.specs.Entries.{State, entry, cell, over_by}
use Rattle.flat.specs.Plan.{Plan}
use Rattle.flat.specs.Rule.{sender, pushes_along, correction_after}
use Rattle.flat.specs.Step.{edge_along, bit_along}
use Rattle.shows.specs.Planned.{Planned}
use Rattle.shows.specs.Shows.{Shows}
use Rattle.shows.proofs.Read.{way-is, pointer-entry, pointer-own, pointer-other}
use Rattle.shows.proofs.Same.{pointer-there}

-- it is the same who pushes first
xor-swap : (c b : Bool) → xor (xor c true) b ≡ xor (xor c b) true
xor-swap true true = refl
xor-swap true false = refl
xor-swap false true = refl
xor-swap false false = refl

module _ (T : Table) (S : Suited T) (w : Window) (k : Kept T w) (merging : is_merging w.stage ≡ true) (st : State) (H : Shows T w st)
    (P : Plan) (N : Planned T w.shape.height w.shape.distance P) where
  abbrev F : Facts T w
  F = facts T w k.formed

  abbrev sent : ℕ → ℕ → Bool
  sent = pushes_along st.defect st.pointer

  abbrev turn : ℕ → Bool → Bool → Bool
  turn e a b = if (eqb (st.growth e) no_edge) (st.correction e) (xor (xor (st.correction e) a) b)

  -- AN EDGE, from node v along pointer p
  module _ (v p : ℕ) (l : v < size w) (e : (to w T p v).there ≡ true) where
    abbrev u : ℕ
    u = (to w T p v).node

    abbrev b : ℕ
    b = (step T p).back

    O : Opposed T p
    O = S.proper.opposed p (direction T w v p e)

    within-over : u < size w
    within-over = node-within T w F.ranged p v e

    -- whether the node over it sends back
    sent-over : sent (over_by (entry v) (P.off (p - 1))) (P.back (p - 1)) ≡ sent (entry u) b
    sent-over =
        let i = way-is T w v p e in
        ap₂ (λ (y q : ℕ). sent y q) (pointer-entry T S w F st H P N v p l e) (N.backs (p - 1) i.1 ∙ ap (λ (q : ℕ). (step T q).back) i.0)

    -- from its other end it stands at the same entry
    pub edge-back : over_by (entry u) (P.slot (b - 1)) ≡ over_by (entry v) (P.slot (p - 1))
    edge-back =
        let back = there_back T w v p e S in
        let r = O.reversed in
        whether (step T p).own
        (λ o.
        pointer-other T S w F st H P N u b within-over back (r.own ∙ ap not o)
        ∙ ap₂ (λ (j y : ℕ). cell j (entry y)) r.kind (node-back T w v p e S)
        ∙ sym (pointer-own T S w F st H P N v p l e o))
        (λ o.
        pointer-own T S w F st H P N u b within-over back (r.own ∙ ap not o)
        ∙ ap (λ (j : ℕ). cell j (entry u)) r.kind
        ∙ sym (pointer-other T S w F st H P N v p l e o))

  -- the node at the other end is over it from there
  back-over : (v p : ℕ) (l : v < size w) (e : (to w T p v).there ≡ true)
      → sent (over_by (entry (to w T p v).node) (P.off ((step T p).back - 1))) (P.back ((step T p).back - 1)) ≡ sent (entry v) p
  back-over v p l e =
      sent-over (to w T p v).node (step T p).back (within-over v p l e) (there_back T w v p e S)
      ∙ ap₂ (λ (y q : ℕ). sent (entry y) q) (node-back T w v p e S) (O v p l e).again

  -- A DEFECT IS SENT ALONG IT, and the edge is the one of a kind that node g names
  module _ (v p : ℕ) (l : v < size w) (e : (to w T p v).there ≡ true)
      (kind g : ℕ) (m : kind < T.kinds) (lg : g < size w) (at : over_by (entry v) (P.slot (p - 1)) ≡ cell kind (entry g)) (s : sent (entry v) p ≡ true) where
    abbrev n : ℕ
    n = P.namer kind

    abbrev Says : Type 0
    Says = turn (over_by (entry v) (P.slot (p - 1))) true (sent (over_by (entry v) (P.off (p - 1))) (P.back (p - 1))) ≡ correction_after P st kind (entry g)

    -- the sender names it
    own-says : (step T p).own ≡ true → Says
    own-says o =
        let c = sym (pointer-own T S w F st H P N v p l e o) ∙ at in
        let z = size-le w in
        let j = (step T p).kind in
        let same : j ≡ kind = omega arith in
        let here : v ≡ g = omega arith in
        let name : n + 1 ≡ p = N.namers kind m ∙ ap (λ (i : ℕ). namer T i) (sym same) ∙ namer-is T S p (direction T w v p e) o in
        let way : p - 1 ≡ n = omega arith in
        let mine : sent (entry v) p ≡ sent (entry g) (n + 1) = ap₂ (λ (y q : ℕ). sent (entry y) q) here (sym name) in
        ap (λ (y : ℕ). turn y true (sent (over_by (entry v) (P.off (p - 1))) (P.back (p - 1)))) at
        ∙ ap₂ (λ (a b : Bool). turn (cell kind (entry g)) a b) (sym s ∙ mine) (ap₂ (λ (y i : ℕ). sent (over_by (entry y) (P.off i)) (P.back i)) here way)

    -- the other end names it
    other-says : (step T p).own ≡ false → Says
    other-says o =
        let c = sym (pointer-other T S w F st H P N v p l e o) ∙ at in
        let z = size-le w in
        let lu = within-over v p l e in
        let j = (step T p).kind in
        let same : j ≡ kind = omega arith in
        let here : (to w T p v).node ≡ g = omega arith in
        let name : n + 1 ≡ (step T p).back = N.namers kind m ∙ ap (λ (i : ℕ). namer T i) (sym same) ∙ namer-back T S p (direction T w v p e) o in
        let way : n ≡ (step T p).back - 1 = omega arith in
        let mine : sent (over_by (entry v) (P.off (p - 1))) (P.back (p - 1)) ≡ sent (entry g) (n + 1) = sent-over v p l e ∙ ap₂ (λ (y q : ℕ). sent (entry y) q) here (sym name) in
        let theirs : sent (over_by (entry g) (P.off n)) (P.back n) ≡ true
        = ap₂ (λ (y i : ℕ). sent (over_by (entry y) (P.off i)) (P.back i)) (sym here) way
        ∙ back-over v p l e
        ∙ s in
        ap (λ (y : ℕ). turn y true (sent (over_by (entry v) (P.off (p - 1))) (P.back (p - 1)))) at
        ∙ ap (λ (c : Bool). if (eqb (st.growth (cell kind (entry g))) no_edge) (st.correction (cell kind (entry g))) c) (xor-swap (st.correction (cell kind (entry g))) _)
        ∙ ap₂ (λ (a b : Bool). turn (cell kind (entry g)) a b) mine (sym theirs)

    says : Says
    says = whether (step T p).own own-says other-says

  -- what a node that sends says of the bit is what the rule makes of it
  pub turned_bit_lem : (kind g v : ℕ) → kind < T.kinds → g < size w → v < size w → sender P st (entry v) ≡ true → edge_along P st (entry v) ≡ cell kind (entry g)
      → bit_along P st (entry v) ≡ correction_after P st kind (entry g)
  turned_bit_lem kind g v m lg l s at =
      let p = st.pointer (entry v) in
      let h = halves (st.defect (entry v)) _ s in
      let e = pointer-there T S w k merging st H P N v l (eqb-false p 0 (not-true _ h.1)) in
      says v p l e kind g m lg at (both (st.defect (entry v)) _ h.0 (eq-eqb p p refl))
