-- Around a detector of the window: the edges that end there, over layers and over directions, are the same. Assumes nothing.
use Rattle.std.specs.Prelude.{ℕ, ◌+◌, ◌-◌, ◌≤◌, ◌<◌, ◌≡◌, refl, Bool, true, ◌&&◌, length}
use native.Mathlib.Omega.{arith}
use Rattle.std.proofs.Common.{sym, ◌∙◌, ap₂, subst, ⊎_elim}
use Rattle.std.proofs.Math.Path.{ap}
use Rattle.std.proofs.Math.Bool.{false, not}
use Rattle.layers.specs.Layers.{edge_number, edge_of, layer_edges, node_of}
use Rattle.law_holds.specs.Layered.{layered}
use Rattle.shape.specs.Choice.{if-true, if-false, tell}
use Rattle.shape.specs.Ranges.{Ranged}
use Rattle.shape.proofs.Ranges.{halves, both}
use Rattle.steps.specs.Steps.{Table, step, goes, across, slot, namer, naming_end}
use Rattle.steps.specs.Joins.{Joins}
use Rattle.steps.specs.Proper.{Opposed, points}
use Rattle.steps.proofs.LawsStep.{across-back, joins-back, slots_apart}
use Rattle.layers.specs.declared.Edge.{Edge}
use Rattle.shape.specs.declared.Place.{Place}
use Rattle.window.specs.Window.{present, reach}
use Rattle.steps.specs.Suited.{Suited, Names, namer-names, namer-back}
use Rattle.window.specs.Round.{edge_slot}
use Rattle.closure.specs.Lists.{either, other}
use Rattle.closure.specs.Edges.{edge, edge-near, edge-there}
use Rattle.law.specs.Law.{Played, Spot, near_end, far_end, same, ends, height, distance, sheets, last, in_window, place_now}
use Rattle.law.specs.Bits.{and-swap}
use Rattle.law_holds.specs.Sums.{parity, parity-same, Led, Matched, matched}
use Rattle.law.specs.Spots.{spot-by, same_self, ends_at, in_window_lem}
use Rattle.law_holds.specs.Conserved.{edged, slot_of}
use Rattle.law_holds.specs.LayerEdges.{way-opposed, way_up}
use Rattle.law_holds.specs.LayerEnds.{edge_here, number_here, opposed, named-joins, number-below, number_is, slot_is, spot_at, far_by, far-back}

module _ (T : Table) (S : Suited T) (p : Played) (r : Ranged (height p) (distance p)) (a : Spot) (low : a.round ≤ last p) where
  abbrev h : ℕ
  h = height p

  abbrev d : ℕ
  d = distance p

  -- the sheets that are there
  abbrev there : ℕ
  there = present p.window

  abbrev q : Place
  q = place_now p a

  -- by pointer
  abbrev layer_at : ℕ → ℕ
  layer_at v = last p - (naming_end T v q).depth

  abbrev edge_at : ℕ → ℕ
  edge_at v = number_here T h d q v

  abbrev there_at : ℕ → Bool
  there_at v = (reach T h d there v q).there

  module _ (v : ℕ) (t : there_at v ≡ true) where
    abbrev m : Place
    m = naming_end T v q

    j : Joins h d there (step T v) q
    j = edge T h d there v q t

    back : Opposed T v
    back = opposed T S h d there q v j

    named : Joins h d there (step T (namer T (step T v).kind)) m
    named = named-joins T S h d there q v j

    depth-back : last p - layer_at v ≡ m.depth
    depth-back = let x = named.from.depth in omega arith

    spot_back : spot_at (last p) q ≡ a
    spot_back = spot-by (spot_at (last p) q) a (omega arith) refl refl

    -- the edge ends here
    near-here : (step T v).own ≡ true → same (near_end (layer_at v) (edge_here T q v)) a ≡ true
    near-here o =
        let x : m ≡ q = if-true (step T v).own q (across (step T v) q) o in
        subst (λ (b : Spot). same b a ≡ true) (sym (ap (spot_at (last p)) x ∙ spot_back)) (same_self a)

    far-here : (step T v).own ≡ false → same (far_end T (layer_at v) (edge_here T q v)) a ≡ true
    far-here o =
        let x : m ≡ across (step T v) q = if-false (step T v).own q (across (step T v) q) o in
        let y : namer T (step T v).kind ≡ (step T v).back = namer-back T S v (points T v j.moves) o in
        let l : there ≤ last p + 1 = omega arith in
        let z : far_end T (layer_at v) (edge_here T q v) ≡ a
        = ap₂ (λ (b : ℕ) (c : Place). far_by (step T b) (last p - c.depth) c) y x
        ∙ far-back h d there (last p) (step T v) (step T (step T v).back) back.reversed q j l
        ∙ spot_back in
        subst (λ (b : Spot). same b a ≡ true) (sym z) (same_self a)

    ends-here : ends T (layer_at v) (edge_here T q v) a ≡ true
    ends-here = ⊎_elim (λ o. either _ _ (near-here o)) (λ o. other (same (near_end (layer_at v) (edge_here T q v)) a) _ (far-here o)) (tell (step T v).own)

    edged-here : (edged T p (layer_at v) (edge_at v) && ends T (layer_at v) (edge_of T h d (edge_at v)) a) ≡ true
    edged-here =
        let n : layer_at v ≤ last p = omega arith in
        let x = depth-back in
        let y = named.from.depth in
        let l : last p - layer_at v < sheets p = omega arith in
        subst (λ (e : Edge). (in_window p (layer_at v) && (reach T h d there (namer T e.kind) (place_now p (near_end (layer_at v) e))).there && ends T (layer_at v) e a) ≡ true)
        (sym (number_is T S h d there q v j))
        (both _ _
        (both _ _ (in_window_lem p (layer_at v) n l)
        (subst (λ (k : ℕ). (reach T h d there (namer T (step T v).kind) (record { depth = k; row = m.row; column = m.column })).there ≡ true) (sym depth-back) (edge-there T h d there (namer T (step T v).kind) m named)))
        ends-here)

    slot-here : slot_of T p (layer_at v) (edge_at v) ≡ slot T h d v q
    slot-here = ap₂ (λ (k : ℕ) (e : Edge). edge_slot h d k e) depth-back (number_is T S h d there q v j) ∙ sym (slot_is T h d q v)

  -- two directions lead to two edges
  directions-apart : (v v' : ℕ) → there_at v ≡ true → there_at v' ≡ true → layer_at v ≡ layer_at v' → edge_at v ≡ edge_at v' → v ≡ v'
  directions-apart v v' t t' x y =
      slots_apart T S.proper h d there r (omega arith) v v' q (across (step T v) q) (across (step T v') q)
      (edge-near T h d there v q (j v t))
      (edge-near T h d there v' q (j v' t'))
      (sym (slot-here v t) ∙ ap₂ (λ (n i : ℕ). slot_of T p n i) x y ∙ slot-here v' t')

  abbrev LedTo : ℕ → ℕ → Type 0
  LedTo n i = Led (length T.steps) (λ x. there_at (x + 1)) (λ x. layer_at (x + 1)) (λ x. edge_at (x + 1)) n i

  -- and every edge that ends here is led to
  module _ (n i : ℕ) (b : n < last p + 1) (l : i < layer_edges T h d) where
    abbrev e : Edge
    e = edge_of T h d i

    abbrev end : Place
    end = node_of (last p - n) e

    led : (v : ℕ) → Joins h d there (step T v) q → naming_end T v q ≡ end → (step T v).kind ≡ e.kind → LedTo n i
    led v J x y =
        let w = points T v J.moves in
        let lo = w.0 in
        let hi = w.1 in
        let z : v - 1 + 1 ≡ v = omega arith in
        let k : last p - (last p - n) ≡ n = omega arith in
        let g : edge_here T q v ≡ e = ap₂ {C = Edge} (λ (k : ℕ) (c : Place). record { kind = k; row = c.row; column = c.column }) y x in
        record {
          direction = v - 1;
          below = omega arith;
          there = ap there_at z ∙ edge-there T h d there v q J;
          layer-is = ap layer_at z ∙ ap (λ (c : Place). last p - c.depth) x ∙ k;
          edge-is = ap edge_at z ∙ ap (edge_number T h d) g ∙ (layered T S).numbered h d i r l;
        }

    abbrev v : ℕ
    v = namer T e.kind

    names : Names T e.kind v
    names = namer-names T S e.kind ((layered T S).kind h d i r l)

    near-led : Joins h d there (step T v) end → near_end n e ≡ a → LedTo n i
    near-led J c =
        let x : end ≡ q = ap (place_now p) c in
        led v (subst (λ (c : Place). Joins h d there (step T v) c) x J) (if-true (step T v).own q (across (step T v) q) names.own ∙ sym x) names.same

    far-led : Joins h d there (step T v) end → far_end T n e ≡ a → LedTo n i
    unfolding across
    far-led J c =
        let O = way-opposed T S h d i r l in
        let u = way_up T S h d i r l in
        let k = J.sheet in
        let x : last p - (n + (step T v).sheet.less - (step T v).sheet.more) ≡ goes (step T v).sheet (last p - n) = omega arith in
        let y : across (step T v) end ≡ q
        = ap {B = Place} (λ (k : ℕ). record { depth = k; row = goes (step T v).row e.row; column = goes (step T v).column e.column }) (sym x) ∙ ap (place_now p) c in
        let o : (step T (step T v).back).own ≡ false = O.reversed.own ∙ ap not names.own in
        led (step T v).back
        (subst (λ (c : Place). Joins h d there (step T (step T v).back) c) y (joins-back h d there (step T v) (step T (step T v).back) O.reversed end J))
        (if-false (step T (step T v).back).own q (across (step T (step T v).back) q) o
        ∙ ap (λ (c : Place). across (step T (step T v).back) c) (sym y)
        ∙ across-back h d there (step T v) (step T (step T v).back) O.reversed end J)
        (O.reversed.kind ∙ names.same)

    covered : (edged T p n i && ends T n e a) ≡ true → LedTo n i
    covered t =
        let x = halves (edged T p n i) (ends T n e a) t in
        let J = edge T h d there v end (halves (in_window p n) _ x.0).1 in
        ⊎_elim (near-led J) (far-led J) (ends_at T n e a x.1)

  abbrev E : ℕ
  E = layer_edges T h d

  matches : Matched (last p + 1) E (length T.steps) (λ n i. edged T p n i && ends T n (edge_of T h d i) a) (λ x. there_at (x + 1)) (λ x. layer_at (x + 1)) (λ x. edge_at (x + 1))
  matches =
      record {
        layer-lt = λ x k t. omega arith;
        edge-lt = λ x k t. number-below T S h d there q (x + 1) (j (x + 1) t);
        holds = λ x k t. edged-here (x + 1) t;
        apart = λ x x' k k' t t' f g. let z = directions-apart (x + 1) (x' + 1) t t' f g in omega arith;
        covers = λ n i b l t. covered n i b l t;
      }

  -- whatever stands in the slots, the layers' edges that end here and the directions from here give the same sum
  pub around : (C : ℕ → Bool) → parity (last p + 1) (λ n. parity E (λ i. edged T p n i && C (slot_of T p n i) && ends T n (edge_of T h d i) a))
      ≡ parity (length T.steps) (λ x. there_at (x + 1) && C (slot T h d (x + 1) q))
  around C =
      parity-same _ (λ n. parity E (λ i. edged T p n i && ends T n (edge_of T h d i) a && C (slot_of T p n i))) (last p + 1)
      (λ n b. parity-same _ (λ i. edged T p n i && ends T n (edge_of T h d i) a && C (slot_of T p n i)) E
      (λ i l. and-swap (edged T p n i) (C (slot_of T p n i)) (ends T n (edge_of T h d i) a)))
      ∙ matched (last p + 1) E (length T.steps) (λ n i. edged T p n i && ends T n (edge_of T h d i) a) (λ x. there_at (x + 1)) (λ x. layer_at (x + 1)) (λ x. edge_at (x + 1)) matches
      (λ n i. C (slot_of T p n i)) (λ x. C (slot T h d (x + 1) q)) (λ x k t. ap C (slot-here (x + 1) t))
