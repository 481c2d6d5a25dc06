-- Neighbours and slots, for every proper table and any number of sheets: there and back along an edge, one slot from both ends, another for each edge.
-- Assumes nothing.
use Rattle.std.specs.Prelude.{ℕ, ◌+◌, ◌*◌, ◌≤◌, ◌<◌, ◌≡◌, refl, Bool, true, false, ◌&&◌, ◌||◌, not, ◌⊎◌, eqb}
use Rattle.std.proofs.Common.{mul-le-mul_left, arith, ◌∙◌, ap₂, inl, inr, ⊎_elim, eq-eqb}
use Rattle.std.proofs.Math.Path.{sym, ap, subst}
use Rattle.shape.specs.Choice.{if, if-true, if-false, tell}
use Rattle.shape.specs.Sizes.{nodes_of, sheets_of, boundary}
use Rattle.shape.specs.Ranges.{Ranged}
use Rattle.shape.proofs.Ranges.{nodes-of}
use Rattle.shape.specs.Nodes.{index_of}
use Rattle.shape.specs.Counting.{Inside}
use Rattle.shape.proofs.LawsIndex.{index-lt, index-injective}
use Rattle.steps.specs.Steps.{Table, step, goes, still, stays, along_row, one_apart, beside, across, both_detectors, joined, near, naming_end, slot_kind, slot_node, slot, Found, At}
use Rattle.steps.specs.Joins.{Clear, Joins}
use Rattle.steps.proofs.Joins.{joined_by, near-at, near-to}
use Rattle.steps.specs.Proper.{swap, still-swap, Reversed, Points, Opposed, Proper, points}
use Rattle.steps.specs.Slots.{slot-kind, slot-node, slot-within}
use Rattle.shape.specs.declared.Place.{Place}
use Rattle.steps.specs.declared.Shift.{Shift}
use Rattle.steps.specs.declared.Step.{Step}

-- A SHIFT AND BACK

goes_back : (s : Shift) (a : ℕ) → Clear s a → goes (swap s) (goes s a) ≡ a
goes_back s a l = omega arith

clear-back : (s : Shift) (a : ℕ) → Clear s a → Clear (swap s) (goes s a)
clear-back s a l = omega arith

-- a shift that leads nowhere is still
still-at : (s : Shift) (a : ℕ) → Clear s a → goes s a ≡ a → still s ≡ true
still-at s a l e = eq-eqb s.less s.more (omega arith)

and_comm : (a b : Bool) → a && b ≡ b && a
and_comm true true = refl
and_comm true false = refl
and_comm false true = refl
and_comm false false = refl

or_comm : (a b : Bool) → a || b ≡ b || a
or_comm true true = refl
or_comm true false = refl
or_comm false true = refl
or_comm false false = refl

-- AN EDGE AND BACK

module _ (h d k : ℕ) (s t : Step) (r : Reversed s t) (q : Place) (j : Joins h d k s q) where
  pub across-back : across t (across s q) ≡ q
  unfolding across
  across-back =
      rw (
        r.row,
        r.column,
        r.sheet,
        goes_back s.row q.row j.row,
        goes_back s.column q.column j.column,
        goes_back s.sheet q.depth j.sheet,
      )

  along-back : along_row t ≡ along_row s
  along-back = rw (r.row, r.sheet, still-swap s.row, still-swap s.sheet)

  apart-back : one_apart t.column ≡ one_apart s.column
  apart-back = rw r.column (or_comm (eqb (s.column.more + 1) s.column.less) (eqb (s.column.less + 1) s.column.more))

  beside_back : beside t ≡ beside s
  beside_back = ap₂ (λ (a b : Bool). a && b) along-back apart-back

  stays-back : stays t ≡ stays s
  stays-back = rw (r.row, r.sheet, r.column, still-swap s.row, still-swap s.sheet, still-swap s.column)

  detectors-back : both_detectors d t (across s q) ≡ both_detectors d s q
  unfolding across
  detectors-back =
      rw (r.column, goes_back s.column q.column j.column)
      (and_comm (not (boundary d (goes s.column q.column))) (not (boundary d q.column)))

  pub joins-back : Joins h d k t (across s q)
  unfolding across
  joins-back =
      record {
        from = j.to;
        to = subst (λ (p : Place). Inside h d k p) (sym across-back) j.from;
        row = rw r.row (clear-back s.row q.row j.row);
        column = rw r.column (clear-back s.column q.column j.column);
        sheet = rw r.sheet (clear-back s.sheet q.depth j.sheet);
        moves = stays-back ∙ j.moves;
        kind = ap (λ (b : Bool). b || both_detectors d t (across s q)) beside_back ∙ ap (λ (b : Bool). beside s || b) detectors-back ∙ j.kind;
      }

-- a step along an edge leads to another place
pub across-moves : (h d k : ℕ) (s : Step) (q : Place) → Joins h d k s q → across s q ≡ q → ⊥
unfolding across
across-moves h d k s q j e =
    let a = still-at s.row q.row j.row (ap (λ (p : Place). p.row) e) in
    let b = still-at s.column q.column j.column (ap (λ (p : Place). p.column) e) in
    let c = still-at s.sheet q.depth j.sheet (ap (λ (p : Place). p.depth) e) in
    let f : stays s ≡ true = rw (a, b, c) in
    let g = j.moves in
    let z : ◌≡◌ {A = ℕ} 0 1 = cc in omega arith

-- NEIGHBOURS AND SLOTS

same-found : (r : Found) (a b : Place) → r ≡ At a → r ≡ At b → a ≡ b
same-found r a b u v = cc

module _ (T : Table) (P : Proper T) (h d k : ℕ) where
  module _ (p : ℕ) (q q' : Place) (e : near T h d k p q ≡ At q') where
    joint : Joins h d k (step T p) q
    joint = (near-to T h d k p q q' e).0

    leads : across (step T p) q ≡ q'
    leads = (near-to T h d k p q q' e).1

    pub near-points : Points T p
    near-points = points T p joint.moves

    opposite : Opposed T p
    opposite = P.opposed p near-points

    pub near-from : Inside h d k q
    near-from = joint.from

    pub near-inside : Inside h d k q'
    near-inside = subst (λ (x : Place). Inside h d k x) leads joint.to

    returns : across (step T (step T p).back) q' ≡ q
    returns =
        ap (λ (x : Place). across (step T (step T p).back) x) (sym leads)
        ∙ across-back h d k (step T p) (step T (step T p).back) opposite.reversed q joint

    -- the opposite direction leads back
    pub near-back : near T h d k (step T p).back q' ≡ At q
    near-back =
        let t = step T (step T p).back in
        near-at T h d k (step T p).back q'
        (subst (λ (x : Place). joined h d k t x ≡ true) leads
        (joined_by h d k t (across (step T p) q) (joins-back h d k (step T p) t opposite.reversed q joint)))
        ∙ ap At returns

    -- both ends have the same name for the edge
    end_back : naming_end T (step T p).back q' ≡ naming_end T p q
    end_back =
        rw (opposite.reversed.own, returns, leads) (either (step T p).own)
      where
        either : (b : Bool) → if (not b) q' q ≡ if b q q'
        either true = refl
        either false = refl

    -- the slot is the same from both ends
    pub slot-back : slot T h d (step T p).back q' ≡ slot T h d p q
    unfolding slot
    slot-back = rw (end_back, opposite.reversed.kind)

    pub end-inside : Inside h d k (naming_end T p q)
    end-inside =
        ⊎_elim (λ o. rw (if-true (step T p).own q (across (step T p) q) o) joint.from)
        (λ o. rw (if-false (step T p).own q (across (step T p) q) o) joint.to)
        (tell (step T p).own)

    module _ (r : Ranged h d) (l : k ≤ sheets_of d) where
      index-low : index_of h d (naming_end T p q) < nodes_of h d
      index-low = rw (nodes-of h d r) (omega (arith, index-lt h d k (naming_end T p q) end-inside, mul-le-mul_left (h * (d + 1)) l))

      -- all sheets of the window may be there, or only some
      pub slot-window : slot T h d p q < T.kinds * nodes_of h d
      unfolding slot
      slot-window =
          slot-within (nodes_of h d) (step T p).kind (index_of h d (naming_end T p q)) index-low T.kinds opposite.kind

  -- two directions along edges, and the same slot: the kind is the same, and the end that names the edge
  module _ (r : Ranged h d) (l : k ≤ sheets_of d) (p p' : ℕ) (q q' t t' : Place) (e : near T h d k p q ≡ At t) (f : near T h d k p' q' ≡ At t') (s : slot T h d p q ≡ slot T h d p' q') where
    split : ((step T p).kind ≡ (step T p').kind) × (index_of h d (naming_end T p q) ≡ index_of h d (naming_end T p' q'))
    unfolding slot
    split =
        let n = nodes_of h d in
        let a = index-low p q t e r l in
        let b = index-low p' q' t' f r l in
        (sym (slot-kind n _ _ a) ∙ ap (slot_kind n) s ∙ slot-kind n _ _ b, sym (slot-node n _ _ a) ∙ ap (slot_node n) s ∙ slot-node n _ _ b)

    same_end : naming_end T p q ≡ naming_end T p' q'
    same_end = index-injective h d k _ _ (end-inside p q t e) (end-inside p' q' t' f) split.1

    same-pointer : (step T p).own ≡ (step T p').own → p ≡ p'
    same-pointer o = P.named p p' (near-points p q t e) (near-points p' q' t' f) split.0 o

    -- the same direction from the same node, or the opposite direction from the other end
    abbrev pub SameEdge : Type 0
    SameEdge = ((p ≡ p') × (q ≡ q')) ⊎ (((step T p).back ≡ p') × (t ≡ q'))

    both_own : (step T p).own ≡ true → (step T p').own ≡ true → SameEdge
    both_own o o' =
        let a = if-true (step T p).own q (across (step T p) q) o in
        let b = if-true (step T p').own q' (across (step T p') q') o' in
        let n = same_end in
        inl (same-pointer (o ∙ sym o'), sym a ∙ n ∙ b)

    neither-own : (step T p).own ≡ false → (step T p').own ≡ false → SameEdge
    neither-own o o' =
        let a = if-false (step T p).own q (across (step T p) q) o ∙ leads p q t e in
        let b = if-false (step T p').own q' (across (step T p') q') o' ∙ leads p' q' t' f in
        let x : t ≡ t' = sym a ∙ same_end ∙ b in
        let y : p ≡ p' = same-pointer (o ∙ sym o') in
        let u = near-back p q t e in
        let v = near-back p' q' t' f in
        inl (y, same-found _ q q' u (ap (λ (m : ℕ). near T h d k (step T m).back t) y ∙ ap (λ (m : Place). near T h d k (step T p').back m) x ∙ v))

    first-own : (step T p).own ≡ true → (step T p').own ≡ false → SameEdge
    first-own o o' =
        let a = if-true (step T p).own q (across (step T p) q) o in
        let b = if-false (step T p').own q' (across (step T p') q') o' ∙ leads p' q' t' f in
        let x : q ≡ t' = sym a ∙ same_end ∙ b in
        let w = opposite p' q' t' f in
        let y : p ≡ (step T p').back
        = P.named p (step T p').back (near-points p q t e) w.back (split.0 ∙ sym w.reversed.kind) (o ∙ sym (w.reversed.own ∙ ap not o')) in
        let v = near-back p' q' t' f in
        inr (ap (λ (m : ℕ). (step T m).back) y ∙ w.again, same-found _ t q' e (ap (λ (m : ℕ). near T h d k m q) y ∙ ap (λ (m : Place). near T h d k (step T p').back m) x ∙ v))

    second-own : (step T p).own ≡ false → (step T p').own ≡ true → SameEdge
    second-own o o' =
        let a = if-false (step T p).own q (across (step T p) q) o ∙ leads p q t e in
        let b = if-true (step T p').own q' (across (step T p') q') o' in
        let w = opposite p q t e in
        inr (
          P.named (step T p).back p' w.back (near-points p' q' t' f) (w.reversed.kind ∙ split.0) (w.reversed.own ∙ ap not o ∙ sym o'),
          sym a ∙ same_end ∙ b,
        )

    -- a slot belongs to one edge
    pub slot-edge : SameEdge
    slot-edge =
        ⊎_elim (λ o. ⊎_elim (λ o'. both_own o o') (λ o'. first-own o o') (tell (step T p').own))
        (λ o. ⊎_elim (λ o'. second-own o o') (λ o'. neither-own o o') (tell (step T p').own))
        (tell (step T p).own)

  -- edges in distinct directions from one node have distinct slots
  pub slots_apart : Ranged h d → k ≤ sheets_of d → (p p' : ℕ) (q t t' : Place) → near T h d k p q ≡ At t → near T h d k p' q ≡ At t' → slot T h d p q ≡ slot T h d p' q → p ≡ p'
  slots_apart r l p p' q t t' e f s =
      ⊎_elim (λ (a : (p ≡ p') × (q ≡ q)). a.0)
      (λ (a : ((step T p).back ≡ p') × (t ≡ q)). absurd (across-moves h d k (step T p) q (joint p q t e) (leads p q t e ∙ a.1)))
      (slot-edge r l p p' q q t t' e f s)
