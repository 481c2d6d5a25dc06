-- What the loops of grow leave, entry by entry, where a window stands. Assumes nothing.
use Prim.Native.Nat.{ℕ, ◌+◌, ◌-◌, ◌%◌, ◌≤◌, ◌<◌, min}
use native.Mathlib.Omega.{arith}
use mathlib.Core.Path.{◌≡◌, ◌∙◌, ap, sym, subst}
use mathlib.Core.Bool.{Bool, true, false}
use mathlib.Core.List.{List}
use mathlib.Core.Logic.{⊎_elim}
use borrow.Author.Tests.{leb-true, leb-false, eq-eqb}
use lib.Dec.{eqb, leb}
use lib.ListN.{length, get_or}
use Rattle.refusal.specs.Laws.{undone}
use Rattle.shape.specs.Choice.{if, if-true, if-false, whether}
use Rattle.steps.specs.Steps.{Table}
use Rattle.window.specs.Lists.{bit}
use Rattle.window.specs.Window.{size, to}
use Rattle.window.specs.declared.Window.{Window}
use Rattle.closure.specs.Facts.{facts, node-within}
use Rattle.flat.specs.Codes.{active_of, defect_of, unrooted_of, pointer_of, growth_of, correction_of, reset_code, no_edge}
use Rattle.flat.specs.Entries.{State, margin, plane, cell, within, over_by, state_of, Long}
use Rattle.flat.specs.LawsEntries.{inside}
use Rattle.flat.specs.Plan.{Plan, plan_of, Safe}
use Rattle.flat.specs.Rule.{growth_after}
use Rattle.flat.specs.Step.{named, list_at, active_at}
use Rattle.flat.specs.Stored.{stored, stored_at, stored-before, length-stored}
use Rattle.flat.specs.declared.Sizes.{Sizes}
use Rattle.growing.specs.Grown.{Actives, raised, hits_of, Leads, Raised, cut_node, cut_mark}
use Rattle.growing.specs.LawsCut.{kept-active, kept-defect, kept-unrooted, cut-pointer}
use Rattle.growing.specs.LawsGrown.{raised-growth, raised-correction, edge_in_lem}
use Rattle.shows.specs.Grown.{cuts_at, Grows}
use Rattle.shows.proofs.Read.{place-node, node-within-entry, flat-entry, flat-held}
use Rattle.grow_step.specs.Standing.{Standing}
use Rattle.grow_step.specs.Openings.{Openings}
use Rattle.grow_step.proofs.Ends.{same-edge, named-low, named-at}
use Rattle.grow_step.proofs.Reached.{reached}

-- A WINDOW THAT STANDS
module _ (P : Plan) (n rows : ℕ) (st : State) (W : Standing P n rows st) where
  abbrev T : Table
  T = W.0

  abbrev w : Window
  w = W.2

  -- what lies over an edge that is there is a node
  pub leads : Leads P n st.growth
  leads x k i m f =
      let S = W.1 in
      let F = facts T w W.5.formed in
      let N = W.6 in
      let H = W.7 in
      let i' : within (size w) x ≡ true = subst (λ (j : ℕ). within j x ≡ true) (sym W.3) i in
      let q = place-node (size w) x i' in
      let g = x - margin in
      let l : k < length T.steps = omega (arith, N.dirs) in
      whether (to w T (k + 1) g).there
      (λ e.
      subst (λ (j : ℕ). within j (over_by x (P.off k)) ≡ true) W.3
      (ap (within (size w)) (ap (λ (y : ℕ). over_by y (P.off k)) (sym q.1) ∙ flat-entry T S w F st H P N g k q.0 l e)
      ∙ node-within-entry (size w) (to w T (k + 1) g).node (node-within T w F.ranged (k + 1) g e)))
      (λ e.
      let r = flat-held T S w F st H P N g k q.0 l in
      let z : st.growth (over_by x (P.slot k)) ≡ no_edge = ap (λ (y : ℕ). st.growth (over_by y (P.slot k))) (sym q.1) ∙ r ∙ if-false (to w T (k + 1) g).there _ _ e in
      absurd (undone (sym (eq-eqb _ _ z) ∙ f)))

  -- pointer C does not fall
  pub none-falls : P.falls 0 ≡ false
  none-falls = W.6.down 0 (omega arith)

  pub no-margins : (kind x : ℕ) → kind < P.kinds → x < plane → within n x ≡ false → st.growth (cell kind x) ≡ no_edge
  no-margins kind x m l f = W.7.margins kind x (omega (arith, W.6.kinds)) l (subst (λ (j : ℕ). within j x ≡ false) (sym W.3) f)

-- NODES THAT ARE CUT
module _ (z : Sizes) (table : List ℕ) (S : Safe z table) (nodes marks edges nodes' marks' : List ℕ) (L : Long nodes marks edges) where
  abbrev b : ℕ
  b = 512 + z.nodes - z.sheet

  abbrev falls : ℕ → Bool
  falls = (plan_of z table).falls

  module _ (en : nodes' ≡ stored b (λ i. cut_node falls (get_or nodes (b + i) 0)) z.sheet nodes) (em : marks' ≡ stored b (λ i. cut_mark falls (get_or nodes (b + i) 0) (get_or marks (b + i) 0)) z.sheet marks) where
    pub long : (edges' : List ℕ) → length edges' ≡ length edges → Long nodes' marks' edges'
    long edges' e =
        record {
          of-nodes = ap length en ∙ length-stored b _ z.sheet nodes ∙ L.of-nodes;
          of-marks = ap length em ∙ length-stored b _ z.sheet marks ∙ L.of-marks;
          of-edges = e ∙ L.of-edges;
        }

    module _ (x : ℕ) (i : within z.nodes x ≡ true) where
      abbrev v : ℕ
      v = get_or nodes x 0

      abbrev cuts : Bool
      cuts = cuts_at (plan_of z table) z.nodes z.sheet (state_of nodes marks edges) x

      low : (x < 512 + z.nodes) × (z.sheet ≤ z.nodes) × (z.nodes ≤ 3600)
      low = ((inside z.nodes x i).1, S.sheets, S.nodes)

      node_at_lem : get_or nodes' x 0 ≡ if cuts (v % 8) v
      node_at_lem =
          let l0 = low.0 in
          let l1 = low.1 in
          let l2 = low.2 in
          ap (λ (l : List ℕ). get_or l x 0) en
          ∙ whether (leb b x)
          (λ t.
          let lo = leb-true b x t in
          let e : b + (x - b) ≡ x = omega arith in
          let r = stored_at b (λ i. cut_node falls (get_or nodes (b + i) 0)) z.sheet nodes 0 (x - b) (omega arith) (omega (arith, L.of-nodes)) in
          (rw e at r) ∙ rw t)
          (λ t. let hi = leb-false b x t in stored-before b (λ i. cut_node falls (get_or nodes (b + i) 0)) z.sheet nodes 0 x hi ∙ rw t)

      pub mark-at : get_or marks' x 0 ≡ if cuts reset_code (get_or marks x 0)
      mark-at =
          let l0 = low.0 in
          let l1 = low.1 in
          let l2 = low.2 in
          ap (λ (l : List ℕ). get_or l x 0) em
          ∙ whether (leb b x)
          (λ t.
          let lo = leb-true b x t in
          let e : b + (x - b) ≡ x = omega arith in
          let r = stored_at b (λ i. cut_mark falls (get_or nodes (b + i) 0) (get_or marks (b + i) 0)) z.sheet marks 0 (x - b) (omega arith) (omega (arith, L.of-marks)) in
          (rw e at r) ∙ rw t)
          (λ t. let hi = leb-false b x t in stored-before b (λ i. cut_mark falls (get_or nodes (b + i) 0) (get_or marks (b + i) 0)) z.sheet marks 0 x hi ∙ rw t)

      pub of_node : {A : Type 0} (f : ℕ → A) → f (v % 8) ≡ f v → f (get_or nodes' x 0) ≡ f v
      of_node f e = ap f node_at_lem ∙ whether cuts (λ t. rw t e) (λ t. rw t)

      pub pointer-at : pointer_of (get_or nodes' x 0) ≡ if cuts 0 (pointer_of v)
      pointer-at = ap pointer_of node_at_lem ∙ whether cuts (λ t. rw t (cut-pointer v)) (λ t. rw t)

-- ALL OF IT
module _ (z : Sizes) (table : List ℕ) (S : Safe z table) (nodes marks edges : List ℕ) (L : Long nodes marks edges) (W : Standing (plan_of z table) z.nodes z.sheet (state_of nodes marks edges))
    (listed : ℕ) (old lists : List ℕ) (A : Actives z.nodes nodes listed old lists)
    (edges' : List ℕ) (count : ℕ) (lists' : List ℕ) (queued : List Bool)
    (R : Raised (plan_of z table) z.nodes (hits_of (plan_of z table) (active_at lists) listed z.dirs) edges edges' 0 count lists lists' queued) where
  abbrev P : Plan
  P = plan_of z table

  abbrev n : ℕ
  n = z.nodes

  -- the edge that a node names
  module _ (kind x : ℕ) (m : kind < z.kinds) (l : x < 4608) where
    abbrev e : ℕ
    e = cell kind x

    abbrev old-edge : ℕ
    old-edge = get_or edges (cell kind x) 0

    abbrev hits : ℕ
    hits = hits_of P (active_at lists) listed z.dirs (cell kind x)

    gains : get_or edges' (cell kind x) 0 ≡ raised old-edge hits
    gains = let k = S.kinds in R.gains (cell kind x) (omega arith)

    pub correction-at : correction_of (get_or edges' (cell kind x) 0) ≡ correction_of (get_or edges (cell kind x) 0)
    correction-at = ap correction_of gains ∙ raised-correction old-edge hits

    growth-is : growth_of (get_or edges' (cell kind x) 0) ≡ if (eqb (growth_of old-edge) no_edge) (growth_of old-edge) (min 2 (growth_of old-edge + hits))
    growth-is = ap growth_of gains ∙ raised-growth old-edge hits

    pub margin-at : within n x ≡ false → growth_of (get_or edges' (cell kind x) 0) ≡ growth_of (get_or edges (cell kind x) 0)
    margin-at f = growth-is ∙ if-true _ _ _ (eq-eqb _ _ (no-margins P n z.sheet (state_of nodes marks edges) W kind x m l f))

    pub growth-at : within n x ≡ true → growth_of (get_or edges' (cell kind x) 0) ≡ growth_after (growth_of (get_or edges (cell kind x) 0)) (active_of (get_or nodes x 0)) (active_of (get_or nodes (over_by x (P.off (P.namer kind))) 0))
    growth-at i =
        let g = growth_of old-edge in
        let a = bit (active_of (get_or nodes x 0)) in
        let c = bit (active_of (get_or nodes (over_by x (P.off (P.namer kind))) 0)) in
        growth-is
        ∙ whether (eqb g no_edge)
        (λ t. if-true (eqb g no_edge) _ _ t ∙ sym (if-true (eqb g no_edge) _ _ t))
        (λ t.
        let T = W.0 in
        let U = W.1 in
        let N = W.6 in
        let h = W.2.shape.height in
        let d = W.2.shape.distance in
        let m' : kind < T.kinds = omega (arith, N.kinds) in
        let r = inside n x i in
        let r0 = r.0 in
        let r1 = r.1 in
        let s = S.nodes in
        let hi : x < 4112 = omega arith in
        let at = named-at T U h d P N kind m' x r0 hi in
        let v = leads P n z.sheet (state_of nodes marks edges) W x (P.namer kind) i (named-low T U h d P N kind m') (ap (λ (y : ℕ). eqb (growth_of (get_or edges y 0)) no_edge) at ∙ t) in
        let q : hits ≡ a + c = reached n nodes listed old lists A T U h d P N s kind m' x i v in
        let z : min 2 (g + hits) ≡ min 2 (g + a + c) = omega arith in
        if-false (eqb g no_edge) _ _ t ∙ z ∙ sym (if-false (eqb g no_edge) _ _ t))

  pub openings : (nodes' marks' : List ℕ) → Openings P n (state_of nodes marks edges) (state_of nodes' marks' edges') count lists' queued
  openings nodes' marks' =
      record {
        queue = R.queue;
        places = R.places (λ i h. absurd (omega arith));
        opened = λ x k i m f t.
            let o = R.opened (over_by x (P.slot k)) (edge_in_lem z table S x k i m) f t in
            let r = inside n x i in
            let r1 = r.1 in
            let r' = inside n o.node o.inside in
            let r1' = r'.1 in
            let s = S.nodes in
            ⊎_elim
            (λ e. subst (λ (y : ℕ). named (list_at lists' 0) count y ≡ true) (sym e.1) o.here)
            (λ e. subst (λ (y : ℕ). named (list_at lists' 0) count y ≡ true) (sym e.1) o.there)
            (same-edge W.0 W.1 W.2.shape.height W.2.shape.distance P W.6 x k o.node o.way r.0 (omega arith) m r'.0 (omega arith) o.low (sym o.edge));
      }

  pub grows : (nodes' marks' : List ℕ)
      → nodes' ≡ stored (512 + z.nodes - z.sheet) (λ i. cut_node P.falls (get_or nodes (512 + z.nodes - z.sheet + i) 0)) z.sheet nodes
      → marks' ≡ stored (512 + z.nodes - z.sheet) (λ i. cut_mark P.falls (get_or nodes (512 + z.nodes - z.sheet + i) 0) (get_or marks (512 + z.nodes - z.sheet + i) 0)) z.sheet marks
      → Grows P n z.sheet (state_of nodes marks edges) (state_of nodes' marks' edges')
  grows nodes' marks' en em =
      let here : (x : ℕ) → within n x ≡ true → x < 4608 = λ x i. let r = inside n x i in let r1 = r.1 in let s = S.nodes in omega arith in
      record {
        active = λ x i. of_node z table S nodes marks edges nodes' marks' L en em x i active_of (kept-active (get_or nodes x 0));
        defect = λ x i. of_node z table S nodes marks edges nodes' marks' L en em x i defect_of (kept-defect (get_or nodes x 0));
        unrooted = λ x i. of_node z table S nodes marks edges nodes' marks' L en em x i unrooted_of (kept-unrooted (get_or nodes x 0));
        pointer = pointer-at z table S nodes marks edges nodes' marks' L en em;
        mark = mark-at z table S nodes marks edges nodes' marks' L en em;
        growth = λ kind x m i. growth-at kind x m (here x i) i;
        margins = λ kind x m l t. margin-at kind x m l t;
        correction = λ kind x m i. correction-at kind x m (here x i);
      }
