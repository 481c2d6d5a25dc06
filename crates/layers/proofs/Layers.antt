-- THE EDGES OF A LAYER AND THEIR NUMBERS, for any table of moves: by kind, row, column, left-out ones skipped. Assumes nothing.
use Rattle.std.specs.Prelude.{ℕ, ◌+◌, ◌≤◌, ◌<◌, ◌≡◌, true, ltb, leb}
use native.Mathlib.Omega.{arith}
use Rattle.std.proofs.Common.{sym, ◌∙◌}
use Rattle.std.proofs.Math.Path.{ap}
use Rattle.std.proofs.Math.Bool.{not}
use borrow.Author.Tests.{ltb-true, leb-true, lt-ltb, le-leb, not-true}
use Rattle.shape.proofs.Ranges.{halves, both}
use Rattle.shape.specs.Counting.{count-place, place-count, count-lt, within-place}
use Rattle.steps.specs.Steps.{Table, step, namer, goes, stays, across}
use Rattle.steps.specs.Joins.{Clear, Joins}
use Rattle.steps.proofs.Joins.{clear, clear-fits}
use Rattle.steps.specs.Proper.{points}
use Rattle.layers.specs.declared.Edge.{Edge}
use Rattle.shape.specs.declared.Place.{Place}
use Rattle.steps.specs.declared.Step.{Step}
use Rattle.steps.specs.Ranks.{rank, pick, rank_lt, pick-rank, Picked, picked}
use Rattle.steps.specs.Suited.{Suited, namer-is}
use Rattle.layers.specs.Layers.{candidates, count_of, edge_by, edge_in, edge_number, edge_of, has, has_at, layer_edges, node_of, spans, spot}

-- AN EDGE OF A STACK OF SHEETS: one within the sheet, and both its ends' depths are there

module _ (h d : ℕ) (st : Step) where
  pub joins-spans : (k : ℕ) (q : Place) → Joins h d k st q → spans h d st q.row q.column ≡ true
  unfolding spans across
  joins-spans k q j =
      let l : goes st.column q.column < d + 1 = omega (arith, j.to.column) in
      both _ _
      (both _ _
      (both _ _
      (both _ _ (both _ _ (lt-ltb q.row h j.from.row) (le-leb q.column d j.from.column)) (clear-fits st.row q.row h j.row j.to.row))
      (clear-fits st.column q.column (d + 1) j.column l))
      (ap not j.moves))
      j.kind

  pub spans-joins : (k : ℕ) (q : Place) → spans h d st q.row q.column ≡ true → q.depth < k → Clear st.sheet q.depth → goes st.sheet q.depth < k → Joins h d k st q
  unfolding spans across
  spans-joins k q e l f m =
      let a = halves _ _ e in
      let b = halves _ _ a.0 in
      let g = halves _ _ b.0 in
      let i = halves _ _ g.0 in
      let n = halves _ _ i.0 in
      let r = clear st.row q.row h i.1 in
      let c = clear st.column q.column (d + 1) g.1 in
      record {
        from = record { depth = l; row = ltb-true _ _ n.0; column = leb-true _ _ n.1 };
        to = record { depth = m; row = r.1; column = omega (arith, c.1) };
        row = r.0;
        column = c.0;
        sheet = f;
        moves = not-true (stays st) b.1;
        kind = a.1;
      }

  pub spans-inside : (r c : ℕ) → spans h d st r c ≡ true → (r < h) × (c ≤ d)
  unfolding spans
  spans-inside r c e =
      let n = halves (ltb r h) (leb c d) (halves _ _ (halves _ _ (halves _ _ (halves _ _ e).0).0).0).0 in
      (ltb-true r h n.0, leb-true c d n.1)

-- THERE AND BACK, for any table

edge_count : (h d : ℕ) (e : Edge) → e.row < h → e.column ≤ d → (k : ℕ) → e.kind < k → edge_in h d (count_of h d e) ≡ e
edge_count h d e l m k n =
    let w : e.column < d + 1 = omega arith in
    ap {B = Edge} (λ (q : Place). record { kind = q.depth; row = q.row; column = q.column })
    (place-count h (d + 1) k (spot e.kind e.row e.column) (record { depth = n; row = l; column = w }))

module _ (T : Table) (h d : ℕ) where
  -- an edge that the layer has
  pub record Has (e : Edge) : Type 0 where
    pub kind : e.kind < T.kinds
    pub there : has T h d e ≡ true

  module _ (e : Edge) (H : Has e) where
    inside : (e.row < h) × (e.column ≤ d)
    inside = spans-inside h d (step T (namer T e.kind)) e.row e.column H.there

    back : edge_in h d (count_of h d e) ≡ e
    back = edge_count h d e inside.0 inside.1 T.kinds H.kind

    counted : count_of h d e < candidates T h d
    counted =
        let i = inside in
        let w : e.column < d + 1 = omega (arith, i.1) in
        count-lt h (d + 1) T.kinds (spot e.kind e.row e.column) (record { depth = H.kind; row = i.0; column = w })

    passes : has_at T h d (count_of h d e) ≡ true
    passes = ap (has T h d) back ∙ H.there

    pub number_lt : edge_number T h d e < layer_edges T h d
    unfolding edge_number layer_edges
    number_lt = rank_lt (has_at T h d) (count_of h d e) (candidates T h d) passes counted

    pub edge-number : edge_of T h d (edge_number T h d e) ≡ e
    unfolding edge_number edge_of
    edge-number = ap (edge_in h d) (pick-rank (has_at T h d) (candidates T h d) (count_of h d e) passes counted) ∙ back

  module _ (h1 : 1 ≤ h) (i : ℕ) (l : i < layer_edges T h d) where
    found : Picked (has_at T h d) (candidates T h d) i
    unfolding layer_edges
    found = picked (has_at T h d) (candidates T h d) i l

    pub number-has : Has (edge_of T h d i)
    unfolding edge_of
    number-has =
        let w : 0 < d + 1 = omega arith in
        record {
          kind = (within-place h (d + 1) T.kinds (pick (has_at T h d) (candidates T h d) i) h1 w found.below).depth;
          there = found.passes;
        }

    pub number-edge : edge_number T h d (edge_of T h d i) ≡ i
    unfolding edge_number edge_of
    number-edge = ap (rank (has_at T h d)) (count-place h (d + 1) (pick (has_at T h d) (candidates T h d) i)) ∙ found.rank_is

  pub edge-injective : (e e' : Edge) → Has e → Has e' → edge_number T h d e ≡ edge_number T h d e' → e ≡ e'
  edge-injective e e' H H' x = sym (edge-number e H) ∙ ap (edge_of T h d) x ∙ edge-number e' H'

module _ (T : Table) (S : Suited T) where
  -- what a node names is an edge of the layer
  pub named-has : (h d k p : ℕ) (q : Place) → Joins h d k (step T p) q → (step T p).own ≡ true → Has T h d (edge_by T p q)
  named-has h d k p q j o =
      let i = points T p j.moves in
      record {
        kind = (S.proper.opposed p i).kind;
        there = ap (λ (x : ℕ). spans h d (step T x) q.row q.column) (namer-is T S p i o) ∙ joins-spans h d (step T p) k q j;
      }

  -- and an edge of the layer at depth j is named by its node, where its other end is not above the top sheet
  pub has_named : (h d k j : ℕ) (e : Edge) → Has T h d e → j < k → Clear (step T (namer T e.kind)).sheet j → Joins h d k (step T (namer T e.kind)) (node_of j e)
  has_named h d k j e H l f =
      let u = S.upwards e.kind H.kind in
      spans-joins h d (step T (namer T e.kind)) k (node_of j e) H.there l f (omega arith)
