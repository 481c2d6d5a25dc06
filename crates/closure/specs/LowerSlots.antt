-- EDGES ONE SHEET DOWN: where they lead, and what stands in their slots after ROUND. Assumes nothing.
use Rattle.std.specs.Prelude.{ℕ, ◌+◌, ◌-◌, ◌*◌, ◌<◌, ◌≡◌, Bool, true, false, ◌||◌, not, List, eqb, get_or}
use Rattle.std.proofs.Common.{arith, sym, ◌∙◌, subst, ⊎_elim, ne_eqb}
use Rattle.std.proofs.Math.Path.{ap}
use Rattle.steps.specs.Slots.{slot-own}
use Rattle.shape.specs.Choice.{tell}
use Rattle.shape.specs.Counting.{Inside}
use Rattle.steps.specs.Joins.{Joins, Clear}
use Rattle.shape.proofs.LawsIndex.{place-index}
use Rattle.steps.proofs.LawsStep.{joins-back, slot-back}
use Rattle.shape.specs.Nodes.{index_of}
use Rattle.steps.specs.Proper.{points}
use Rattle.shape.specs.Ranges.{Ranged}
use Rattle.shape.specs.Sizes.{sheets_of}
use Rattle.steps.specs.Steps.{Table, step, goes, across, slot, namer, slot_in}
use Rattle.shape.specs.declared.Place.{Place}
use Rattle.steps.specs.declared.Shift.{Shift}
use Rattle.steps.specs.declared.Step.{Step}
use Rattle.window.specs.Lists.{over}
use Rattle.window.specs.Round.{at_top, fallen_slot}
use Rattle.window.specs.Window.{size, supplied}
use Rattle.steps.specs.Suited.{Suited, namer-is}
use Rattle.window.specs.declared.Window.{Window}
use Rattle.closure.specs.Edges.{edge-near}
use Rattle.closure.specs.Facts.{index-within, present-within}
use Rattle.closure.specs.After.{top-slot, sunk-slot}
use Rattle.closure.specs.Lower.{lower, index-lower}

pub across-lower : (st : Step) (q : Place) → Clear st.sheet q.depth → across st (lower q) ≡ lower (across st q)
unfolding across
across-lower st q l =
    let e : q.depth + 1 + st.sheet.more - st.sheet.less ≡ q.depth + st.sheet.more - st.sheet.less + 1 = omega arith in
    rw e

-- WHAT STANDS IN A SLOT AFTER ROUND

module _ (T : Table) (w : Window) (r : Ranged w.shape.height w.shape.distance) {A : Type 0} (z : A) (old : List A) where
  abbrev h : ℕ
  h = w.shape.height

  abbrev d : ℕ
  d = w.shape.distance

  abbrev s : ℕ
  s = sheets_of d

  abbrev new : List A
  new = over (T.kinds * size w) (fallen_slot T w z old) old

  -- by the end that names the edge, and its kind
  module _ (kind : ℕ) (k : kind < T.kinds) where
    abbrev rise : Shift
    rise = (step T (namer T kind)).sheet

    abbrev slot_at : Place → ℕ
    slot_at q = slot_in (size w) kind (index_of h d q)

    abbrev is_new : ℕ → Bool
    is_new depth = eqb depth 0 || eqb (goes rise depth) 0

    at_top_lem : (q : Place) → Inside h d s q → at_top T w (index_of h d q) (namer T kind) ≡ is_new q.depth
    unfolding across
    at_top_lem q i = ap (λ (x : Place). is_new x.depth) (place-index h d s q i)

    -- an edge of the new top sheet, or one up to it
    pub slot-new : (q : Place) → Inside h d s q → is_new q.depth ≡ true → get_or new (slot_at q) z ≡ z
    slot-new q i t = top-slot T w (index_of h d q) kind (index-within h d r q i) k z old (at_top_lem q i ∙ t)

    -- any other: what stood in the slot of the edge above
    pub slot-old : (q : Place) → Inside h d s (lower q) → Clear rise q.depth → get_or new (slot_at (lower q)) z ≡ get_or old (slot_at q) z
    slot-old q i c =
        let t : is_new (q.depth + 1) ≡ false = rw (ne_eqb (q.depth + 1) 0 (λ e. omega arith)) (ne_eqb (goes rise (q.depth + 1)) 0 (λ e. omega arith)) in
        sunk-slot T w (index_of h d (lower q)) kind (index-within h d r (lower q) i) k z old (index_of h d q) (index-lower h d q) (at_top_lem (lower q) i ∙ t)

  module _ (S : Suited T) where
    -- by a direction: from the end that names the edge
    falls-own : (k p : ℕ) → (step T p).own ≡ true → (q : Place) → Joins h d k (step T p) q → Inside h d s (lower q) → get_or new (slot T h d p (lower q)) z ≡ get_or old (slot T h d p q) z
    falls-own k p o q j i =
        let pointer = points T p j.moves in
        ap (λ (n : ℕ). get_or new n z) (slot-own T h d p (lower q) o)
        ∙ slot-old (step T p).kind (S.proper.opposed p pointer).kind q i (subst (λ (n : ℕ). Clear (step T n).sheet q.depth) (sym (namer-is T S p pointer o)) j.sheet)
        ∙ ap (λ (n : ℕ). get_or old n z) (sym (slot-own T h d p q o))

    module _ (p : ℕ) (q : Place) (k next : ℕ) (j : Joins h d k (step T p) q) (m : Joins h d (supplied d next s) (step T p) (lower q)) where
      -- from the other
      falls-other : (step T p).own ≡ false → get_or new (slot T h d p (lower q)) z ≡ get_or old (slot T h d p q) z
      falls-other o =
          let P = S.proper in
          let back = (step T p).back in
          let opposed = P.opposed p (points T p j.moves) in
          let q' = across (step T p) q in
          let e = across-lower (step T p) q j.sheet in
          let a = slot-back T P h d k p q q' (edge-near T h d k p q j) in
          let b = slot-back T P h d (supplied d next s) p (lower q) (across (step T p) (lower q)) (edge-near T h d (supplied d next s) p (lower q) m) in
          ap (λ (n : ℕ). get_or new n z) (sym b ∙ ap (λ (x : Place). slot T h d back x) e)
          ∙ falls-own k back (opposed.reversed.own ∙ ap not o) q' (joins-back h d k (step T p) (step T back) opposed.reversed q j)
          (subst (λ (x : Place). Inside h d s x) e (present-within h d next _ m.to))
          ∙ ap (λ (n : ℕ). get_or old n z) a

      pub slot-falls : get_or new (slot T h d p (lower q)) z ≡ get_or old (slot T h d p q) z
      slot-falls = ⊎_elim (λ o. falls-own k p o q j (present-within h d next _ m.from)) falls-other (tell (step T p).own)
