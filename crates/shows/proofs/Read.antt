-- WHAT STANDS OVER A DIRECTION, read by entries: the edge is there, and open, exactly if it is so in the window, and then the neighbour is the
-- window's; where there is no edge the state says so, be it in a margin or for another node. Assumes nothing.
use Rattle.std.specs.Prelude.{ℕ, ◌+◌, ◌-◌, ◌≤◌, ◌<◌, ◌≡◌, refl, Bool, true, false, ◌&&◌, leb, eqb, length, get_or}
use Rattle.std.proofs.Common.{arith, sym, ◌∙◌, ap₂, subst, leb-true, ltb-true, lt-ltb, le-leb}
use Rattle.std.proofs.Math.Path.{ap}
use Rattle.refusal.specs.Laws.{undone}
use Rattle.shape.specs.Choice.{if, if-true, if-false, whether}
use Rattle.shape.proofs.LawsIndex.{index-place}
use Rattle.shape.specs.Nodes.{index_of}
use Rattle.shape.proofs.Ranges.{halves, both}
use Rattle.shape.specs.Sizes.{sheets_of, nodes_in}
use Rattle.steps.specs.Offsets.{back_by, on_by}
use Rattle.steps.proofs.Offsets.{index-offset}
use Rattle.steps.specs.Proper.{Points, Opposed, Reversed}
use Rattle.steps.specs.Slots.{slot-own}
use Rattle.steps.specs.Steps.{Table, step, across, namer, slot_in, slot}
use Rattle.steps.specs.Suited.{Suited, namer-names, namer-is, namer-back}
use Rattle.steps.specs.declared.Step.{Step}
use Rattle.shape.specs.declared.Place.{Place}
use Rattle.window.specs.Formed.{mark_fits}
use Rattle.window.specs.Window.{size, present, place, to}
use Rattle.window.specs.declared.Mark.TheVariants.{Reset, Root}
use Rattle.window.specs.declared.Node.{Node}
use Rattle.window.specs.declared.Window.{Window}
use Rattle.closure.specs.Edges.{edge, edge_to, edge-slot}
use Rattle.closure.specs.Facts.{Facts, node-within}
use Rattle.closure.specs.Sized.{size-le}
use Rattle.closure.specs.Ways.{direction, there_back}
use Rattle.flat.specs.Codes.{reset_code, mark_of, no_edge}
use Rattle.flat.specs.Entries.{State, margin, entry, cell, within, over_by}
use Rattle.flat.specs.Plan.{Plan}
use Rattle.shows.specs.Planned.{Planned}
use Rattle.shows.specs.Shows.{node_at, held, Shows}
use Rattle.shows.specs.Riding.{opens, neighbour}

-- ENTRIES OF NODES

pub node-within-entry : (n g : ℕ) → g < n → within n (entry g) ≡ true
node-within-entry n g l = both (leb margin (entry g)) _ (le-leb margin (entry g) (omega arith)) (lt-ltb (entry g) (margin + n) (omega arith))

pub place-node : (n x : ℕ) → within n x ≡ true → (x - margin < n) × (entry (x - margin) ≡ x)
place-node n x e =
    let a = halves (leb margin x) _ e in
    let lo = leb-true margin x a.0 in
    let hi = ltb-true x (margin + n) a.1 in
    (omega arith, omega arith)

-- A MARK that is not the code of reset is a number
module _ (T : Table) (w : Window) (F : Facts T w) (st : State) (H : Shows T w st) (g : ℕ) (l : g < size w) where
  abbrev numbers : ℕ
  numbers = nodes_in w.shape.height w.shape.distance (sheets_of w.shape.distance + 1)

  pub mark-within : eqb (st.mark (entry g)) reset_code ≡ false → st.mark (entry g) < numbers
  mark-within t =
      let m = st.mark (entry g) in
      let a : mark_fits w.stage numbers (mark_of m) ≡ true = subst (λ (n : Node). mark_fits w.stage numbers n.mark ≡ true) (sym (H.nodes g l)) (F.nodes g l).mark in
      let b : mark_of m ≡ Root m = if-false (eqb m reset_code) Reset (Root m) t in
      ltb-true m numbers (rw b at a)

-- A SLOT, by the end that names its edge
module _ (T : Table) (w : Window) (g p : ℕ) (e : (to w T p g).there ≡ true) where
  abbrev u : ℕ
  u = (to w T p g).node

  pub own-slot : (step T p).own ≡ true → (to w T p g).slot ≡ slot_in (size w) (step T p).kind g
  own-slot o =
      edge-slot T _ _ (present w) p (place w g) (edge T _ _ (present w) p (place w g) e) ∙ slot-own T _ _ p (place w g) o
      ∙ ap (λ (j : ℕ). slot_in (size w) (step T p).kind j) (index-place w.shape.height w.shape.distance g)

  pub other-slot : (step T p).own ≡ false → (to w T p g).slot ≡ slot_in (size w) (step T p).kind u
  unfolding slot
  other-slot o =
      let j = edge T _ _ (present w) p (place w g) e in
      edge-slot T _ _ (present w) p (place w g) j
      ∙ ap (λ (q : Place). slot_in (size w) (step T p).kind (index_of w.shape.height w.shape.distance q)) (if-false (step T p).own (place w g) (across (step T p) (place w g)) o)
      ∙ ap (λ (x : ℕ). slot_in (size w) (step T p).kind x) (sym (edge_to T _ _ (present w) p (place w g) j))

-- an edge's growth is at most 2
pub edge-most : (T : Table) → Suited T → (w : Window) → Facts T w → (g p : ℕ) → g < size w → (to w T p g).there ≡ true → get_or w.growth (to w T p g).slot 0 ≤ 2
edge-most T S w F g p l e =
    let m = (S.proper.opposed p (direction T w g p e)).kind in
    whether (step T p).own
    (λ o. rw (own-slot T w g p e o) (F.slots g (step T p).kind l m).most)
    (λ o. rw (other-slot T w g p e o) (F.slots (to w T p g).node (step T p).kind (node-within T w F.ranged p g e) m).most)

-- the way back is as long
back-offset : (h d : ℕ) (s t : Step) → Reversed s t → (back_by h d t ≡ on_by h d s) × (on_by h d t ≡ back_by h d s)
back-offset h d s t r = (rw (r.sheet, r.row, r.column), rw (r.sheet, r.row, r.column))

-- a pointer that leads along an edge, and its direction from 0
module _ (T : Table) (w : Window) (g p : ℕ) (e : (to w T p g).there ≡ true) where
  pub way-is : (p - 1 + 1 ≡ p) × (p - 1 < length T.steps)
  way-is = let i = direction T w g p e in let lo = i.0 in let hi = i.1 in (omega arith, omega arith)

module _ (T : Table) (S : Suited T) (w : Window) (F : Facts T w) (st : State) (H : Shows T w st) (P : Plan) (N : Planned T w.shape.height w.shape.distance P) where
  abbrev h : ℕ
  h = w.shape.height

  abbrev d : ℕ
  d = w.shape.distance

  module _ (g k : ℕ) (l : g < size w) (m : k < length T.steps) where
    abbrev p : ℕ
    p = k + 1

    points : Points T p
    points = (omega arith, omega arith)

    O : Opposed T p
    O = S.proper.opposed p points

    abbrev kind : ℕ
    kind = (step T p).kind

    -- over an edge
    pub flat-entry : (to w T p g).there ≡ true → over_by (entry g) (P.off k) ≡ entry (to w T p g).node
    flat-entry e =
        let j = edge T h d (present w) p (place w g) e in
        let x = index-offset h d (present w) (step T p) (place w g) j in
        let y : (to w T p g).node ≡ index_of h d (across (step T p) (place w g)) = edge_to T h d (present w) p (place w g) j in
        let z : index_of h d (place w g) ≡ g = index-place h d g in
        let o = N.offs k m in
        omega arith

    pub flat-node : (to w T p g).there ≡ true → node_at st (over_by (entry g) (P.off k)) ≡ neighbour T w g p
    flat-node e = ap (λ (y : ℕ). node_at st y) (flat-entry e) ∙ H.nodes (to w T p g).node (node-within T w F.ranged p g e)

    -- the growth that is read, where the node names the edge
    own-cell : (step T p).own ≡ true → over_by (entry g) (P.slot k) ≡ cell kind (entry g)
    own-cell o = let x = N.slots k m ∙ ap (λ (y : ℕ). cell kind y) (if-true (step T p).own margin (P.off k) o) in omega arith

    other-cell : (step T p).own ≡ false → over_by (entry g) (P.slot k) ≡ cell kind (g + P.off k)
    other-cell o = let x = N.slots k m ∙ ap (λ (y : ℕ). cell kind y) (if-false (step T p).own margin (P.off k) o) in omega arith

    -- what is read: the edge's growth, or that there is none
    abbrev reading : ℕ
    reading = st.growth (over_by (entry g) (P.slot k))

    abbrev Held : Type 0
    Held = reading ≡ if (to w T p g).there (get_or w.growth (to w T p g).slot 0) no_edge

    own_held : (step T p).own ≡ true → Held
    own_held o =
        let x : reading ≡ held T w kind g = ap st.growth (own-cell o) ∙ H.growth kind g O.kind l in
        let n : namer T kind ≡ p = namer-is T S p points o in
        rw (x, n)
        (whether (to w T p g).there
        (λ e. let s = own-slot T w g p e o in rw (e, s))
        (λ e. rw e))

    -- where another node names it
    other-there : (step T p).own ≡ false → (to w T p g).there ≡ true → Held
    other-there o e =
        let u = (to w T p g).node in
        let f = flat-entry e in
        let c : g + P.off k ≡ entry u = omega arith in
        let n : namer T kind ≡ (step T p).back = namer-back T S p points o in
        let x : reading ≡ held T w kind u = ap st.growth (other-cell o ∙ ap (cell kind) c) ∙ H.growth kind u O.kind (node-within T w F.ranged p g e) in
        let s = other-slot T w g p e o in
        let b = there_back T w g p e S in
        rw (x, n, b, e, s)

    -- a node there that named an edge would lead here
    none-there : (step T p).own ≡ false → (to w T p g).there ≡ false → (u : ℕ) → g + P.off k ≡ entry u → u < size w → held T w kind u ≡ no_edge
    none-there o e u c lu =
        let n : namer T kind ≡ (step T p).back = namer-back T S p points o in
        let b = (step T p).back in
        rw n
        (whether (to w T b u).there
        (λ t.
        let j = edge T h d (present w) b (place w u) t in
        let x = index-offset h d (present w) (step T b) (place w u) j in
        let y : (to w T b u).node ≡ index_of h d (across (step T b) (place w u)) = edge_to T h d (present w) b (place w u) j in
        let z : index_of h d (place w u) ≡ u = index-place h d u in
        let q = N.offs k m in
        let v = back-offset h d (step T p) (step T b) O.reversed in
        let v0 = v.0 in
        let v1 = v.1 in
        let here : (to w T b u).node ≡ g = omega arith in
        let t' : (to w T (step T b).back (to w T b u).node).there ≡ true = there_back T w u b t S in
        absurd (undone (sym (rw (O.again, here) at t') ∙ e)))
        (λ t. rw t))

    other_none : (step T p).own ≡ false → (to w T p g).there ≡ false → Held
    other_none o e =
        let x = g + P.off k in
        let n = size-le w in
        let most = N.most k m in
        let v : st.growth (cell kind x) ≡ no_edge
        = whether (within (size w) x)
        (λ t.
        let q = place-node (size w) x t in
        ap (λ (y : ℕ). st.growth (cell kind y)) (sym q.1) ∙ H.growth kind (x - margin) O.kind q.0 ∙ none-there o e (x - margin) (sym q.1) q.0)
        (λ t. H.margins kind x O.kind (omega arith) t) in
        ap st.growth (other-cell o) ∙ v ∙ rw e

    pub flat-held : Held
    flat-held = whether (step T p).own own_held (λ o. whether (to w T p g).there (other-there o) (other_none o))

    pub flat-open : eqb (st.growth (over_by (entry g) (P.slot k))) 2 ≡ opens T w g p
    flat-open = ap (λ (v : ℕ). eqb v 2) flat-held ∙ go (to w T p g).there (get_or w.growth (to w T p g).slot 0)
      where
        go : (b : Bool) (v : ℕ) → eqb (if b v no_edge) 2 ≡ (b && eqb v 2)
        go true v = refl
        go false v = refl

  -- the same by a pointer
  module _ (g p : ℕ) (l : g < size w) (e : (to w T p g).there ≡ true) where
    pub pointer-entry : over_by (entry g) (P.off (p - 1)) ≡ entry (to w T p g).node
    pointer-entry = let i = way-is T w g p e in flat-entry g (p - 1) l i.1 (rw i.0 e) ∙ ap (λ (q : ℕ). entry (to w T q g).node) i.0

    pub pointer-open : eqb (st.growth (over_by (entry g) (P.slot (p - 1)))) 2 ≡ opens T w g p
    pointer-open = let i = way-is T w g p e in flat-open g (p - 1) l i.1 ∙ ap (opens T w g) i.0

    -- its edge stands at its own entry, or at the other end's
    pub pointer-own : (step T p).own ≡ true → over_by (entry g) (P.slot (p - 1)) ≡ cell (step T p).kind (entry g)
    pointer-own o = let i = way-is T w g p e in own-cell g (p - 1) l i.1 (rw i.0 o) ∙ ap (λ (q : ℕ). cell (step T q).kind (entry g)) i.0

    pub pointer-other : (step T p).own ≡ false → over_by (entry g) (P.slot (p - 1)) ≡ cell (step T p).kind (entry (to w T p g).node)
    pointer-other o =
        let i = way-is T w g p e in
        let f = pointer-entry in
        let c : g + P.off (p - 1) ≡ entry (to w T p g).node = omega arith in
        other-cell g (p - 1) l i.1 (rw i.0 o) ∙ ap₂ (λ (q y : ℕ). cell (step T q).kind y) i.0 c

  -- the direction in which a node names its edge of a kind
  pub named-way : (kind : ℕ) → kind < T.kinds → P.namer kind < length T.steps
  named-way kind m =
      let n = (namer-names T S kind m).pointer in
      let hi = n.1 in
      let e = N.namers kind m in
      omega arith

  -- and there its edge stands at its own entry
  pub named-cell : (kind g : ℕ) → kind < T.kinds → g < size w → over_by (entry g) (P.slot (P.namer kind)) ≡ cell kind (entry g)
  named-cell kind g m l =
      let n = namer-names T S kind m in
      let e = N.namers kind m in
      let o : (step T (P.namer kind + 1)).own ≡ true = rw e n.own in
      let s : (step T (P.namer kind + 1)).kind ≡ kind = rw e n.same in
      own-cell g (P.namer kind) l (named-way kind m) o ∙ ap (λ (j : ℕ). cell j (entry g)) s
