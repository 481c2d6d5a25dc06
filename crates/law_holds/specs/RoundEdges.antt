-- ROUND changes no correction bit of a layer already received: those of the bottom layer go to the edge buffer. Assumes nothing.
use Rattle.std.specs.Prelude.{ℕ, ◌+◌, ◌-◌, ◌≤◌, ◌<◌, min, ◌≡◌, refl, Bool, true, ◌&&◌, List}
use native.Mathlib.Omega.{arith}
use Rattle.std.proofs.Math.Path.{sym, ap, ap₂}
use Rattle.std.proofs.Common.{◌∙◌, ⊎_elim, eq-eqb}
use Rattle.std.proofs.Math.Bool.{false}
use Rattle.std.proofs.Math.Dec.{eqb}
use Rattle.std.proofs.Math.ListN.{length, get_or}
use Rattle.layers.specs.Layers.{edge_of, layer_edges, node_of}
use Rattle.shape.specs.Choice.{tell, order}
use Rattle.shape.specs.Ranges.{Ranged}
use Rattle.steps.specs.Steps.{Table, goes, namer}
use Rattle.steps.specs.Joins.{Clear}
use Rattle.window.specs.Lists.{bit}
use Rattle.window.specs.LawsLists.{get_or-by, and_no, and-not}
use Rattle.window.specs.Window.{present, reach}
use Rattle.window.specs.Round.{edge_slot, rounded, committed_edges as leaving}
use Rattle.closure.specs.Lists.{other}
use Rattle.closure.specs.Facts.{Facts}
use Rattle.steps.specs.Suited.{Suited}
use Rattle.law_holds.specs.Layered.{layered}
use Rattle.law.specs.Law.{Played, Receipt, Spot, ends, height, distance, sheets, last, receipt, pending}
use Rattle.law_holds.specs.Rules.{taken}
use Rattle.law.specs.Bits.{refuted, bit-one}
use Rattle.closure.specs.LowerSlots.{slot-new, slot-old}
use Rattle.law.specs.Spots.{ends_at, in_window_lem}
use Rattle.law_holds.specs.Receipts.{old-receipt, new-receipt, counts, lower-than, three}
use Rattle.law_holds.specs.Conserved.{edged, slot_of, corrected, left-edge, held-edge}
use Rattle.law_holds.specs.Absent.{unset}
use Rattle.law_holds.specs.LayerEdges.{way, way-opposed, edged-in, edged-there, edged-clear, named-inside}

-- a sheet that is there is so one sheet down, and one that is not is not
there-lower : (s next j : ℕ) → s ≤ next → j < min s (next - s) → j + 1 < s → j + 1 < min s (next + 1 - s)
there-lower s next j u b m = omega arith

absent-lower : (s next j k : ℕ) → s ≤ next → min s (next - s) ≤ j → k ≡ j + 1 → k < min s (next + 1 - s) → ⊥
absent-lower s next j k u b e m = omega arith

module _ (T : Table) (S : Suited T) (p : Played) (defects : List ℕ) (f : Facts T p.window) where
  abbrev r : Ranged (height p) (distance p)
  r = f.ranged

  abbrev after : Played
  after = taken T p defects

  abbrev count : ℕ
  count = length p.receipts

  abbrev h : ℕ
  h = height p

  abbrev d : ℕ
  d = distance p

  abbrev s : ℕ
  s = sheets p

  module _ (n i : ℕ) (l : i < layer_edges T h d) where
    abbrev kind : ℕ
    kind = (edge_of T h d i).kind

    kind-lt : kind < T.kinds
    kind-lt = (layered T S).kind h d i r l

    -- a layer that left before
    edge-left : n < count → corrected T after n i ≡ corrected T p n i
    unfolding rounded
    edge-left m =
        let e = counts T p defects in
        let m' : n < length after.receipts = omega arith in
        left-edge T after n i m' ∙ ap (λ (x : Receipt). eqb (get_or x.edges i 0) 1) (old-receipt T p defects n m) ∙ sym (left-edge T p n i m)

    abbrev bottom_bit : Bool
    bottom_bit = get_or p.window.correction (edge_slot h d (s - 1) (edge_of T h d i)) false

    -- the bottom layer: pending before, committed after
    bottom-after : n ≡ count → corrected T after n i ≡ bottom_bit
    unfolding rounded leaving
    bottom-after e =
        let c = counts T p defects in
        let m : n < length after.receipts = omega arith in
        left-edge T after n i m
        ∙ ap (λ (x : Receipt). eqb (get_or x.edges i 0) 1) (ap (λ (k : ℕ). receipt after k) e ∙ new-receipt T p defects)
        ∙ ap (λ (x : ℕ). eqb x 1) (get_or-by (λ k. bit (get_or p.window.correction (edge_slot h d (s - 1) (edge_of T h d k)) false)) (layer_edges T h d) i 0 l)
        ∙ bit-one bottom_bit

    bottom-before : n ≡ count → corrected T p n i ≡ bottom_bit
    bottom-before e =
        let t = three p r in
        let a : n ≤ last p = omega arith in
        let b : last p - n < s = omega arith in
        let j : last p - n ≡ s - 1 = omega arith in
        let g : count ≤ n = omega arith in
        let there = (reach T h d (present p.window) (namer T kind) (node_of (last p - n) (edge_of T h d i))).there in
        let slot = get_or p.window.correction (slot_of T p n i) false in
        held-edge T p n i g
        ∙ ap (λ (x : Bool). x && there && slot) (in_window_lem p n a b)
        ∙ absorbed there slot (unset T S p.window f i l (last p - n) b)
        ∙ ap (λ (k : ℕ). get_or p.window.correction (edge_slot h d k (edge_of T h d i)) false) j
      where
        absorbed : (x y : Bool) → (x ≡ false → y ≡ false) → true && x && y ≡ y
        absorbed true y f = refl
        absorbed false y f = sym (f refl)

    -- a layer of the window, above the bottom one
    module _ (low : count < n) (high : n ≤ last p) where
      abbrev j : ℕ
      j = last p - n

      lower_by : last after - n ≡ j + 1
      lower_by = lower-than T p defects n high

      -- it is not the bottom one
      upper : j + 1 < s
      upper = let t = three p r in omega arith

      not-later : n ≤ last after
      unfolding rounded
      not-later = let e = counts T p defects in omega arith

      clear-lower : Clear (way T h d i).sheet j → Clear (way T h d i).sheet (last after - n)
      clear-lower c = rw lower_by (omega arith)

      stays-clear : j < present p.window → Clear (way T h d i).sheet j → pending T after n i ≡ pending T p n i
      unfolding rounded
      stays-clear b c =
          let b' : last after - n < present after.window = rw lower_by (there-lower s p.window.next j f.next b upper) in
          ap₂ (λ (x : Bool) (k : ℕ). x && get_or after.window.correction (edge_slot h d k (edge_of T h d i)) false) (edged-in T S after r n i l not-later b' (clear-lower c)) lower_by
          ∙ slot-old T p.window r false p.window.correction kind kind-lt (node_of j (edge_of T h d i)) (named-inside T S h d i r l s (j + 1) upper) c
          ∙ sym (ap (λ (x : Bool). x && get_or p.window.correction (slot_of T p n i) false) (edged-in T S p r n i l high b c))

      -- nothing is pending where the edge is absent, before and after
      stays-absent : present p.window ≤ j → pending T after n i ≡ pending T p n i
      unfolding rounded
      stays-absent b =
          let m = absent-lower s p.window.next j (last after - n) f.next b lower_by in
          and-not (edged T after n i) _ (refuted (edged T after n i) (λ y. m (edged-there T after n i y)))
          ∙ sym (and-not (edged T p n i) _ (refuted (edged T p n i) (λ y. let z = edged-there T p n i y in omega arith)))

      stays-top : j + (way T h d i).sheet.more < (way T h d i).sheet.less → pending T after n i ≡ pending T p n i
      unfolding rounded
      stays-top c =
          let t = three p r in
          let m : j + 1 < s = omega arith in
          let z : goes (way T h d i).sheet (j + 1) ≡ 0 = omega arith in
          and_no (edged T after n i) _
          (ap (λ (k : ℕ). get_or after.window.correction (edge_slot h d k (edge_of T h d i)) false) lower_by
          ∙ slot-new T p.window r false p.window.correction kind kind-lt (node_of (j + 1) (edge_of T h d i)) (named-inside T S h d i r l s (j + 1) m) (other (eqb (j + 1) 0) _ (eq-eqb _ 0 z)))
          ∙ sym (and-not (edged T p n i) _ (refuted (edged T p n i) (λ x. let y = edged-clear T p n i x in omega arith)))

      edge_stays : corrected T after n i ≡ corrected T p n i
      edge_stays =
          let e = counts T p defects in
          held-edge T after n i (omega arith)
          ∙ ⊎_elim (λ b. ⊎_elim stays-top (stays-clear b) (order (j + (way T h d i).sheet.more) (way T h d i).sheet.less)) stays-absent (order j (present p.window))
          ∙ sym (held-edge T p n i (omega arith))

    -- no bit of a layer already received changes
    pub old-edge : n ≤ last p → corrected T after n i ≡ corrected T p n i
    old-edge m =
        ⊎_elim edge-left
        (λ x. ⊎_elim (λ y. edge_stays y m) (λ y. let e : n ≡ count = omega arith in bottom-after e ∙ sym (bottom-before e)) (order count n))
        (order n count)

    -- the new layer has none
    pub new-edge : n ≡ last p + 1 → corrected T after n i ≡ false
    unfolding rounded
    new-edge e =
        let c = counts T p defects in
        let t = three p r in
        let g : length after.receipts ≤ n = omega arith in
        let z : last after - n ≡ 0 = omega arith in
        let o : 0 < s = omega arith in
        held-edge T after n i g
        ∙ and_no (edged T after n i) _
        (ap (λ (k : ℕ). get_or after.window.correction (edge_slot h d k (edge_of T h d i)) false) z
        ∙ slot-new T p.window r false p.window.correction kind kind-lt (node_of 0 (edge_of T h d i)) (named-inside T S h d i r l s 0 o) refl)

-- nothing ends above the last round
module _ (T : Table) (S : Suited T) (p : Played) (r : Ranged (height p) (distance p)) (n i : ℕ) (l : i < layer_edges T (height p) (distance p)) where
  pub ends-below : (a : Spot) → a.round ≡ last p + 1 → n ≤ last p → (corrected T p n i && ends T n (edge_of T (height p) (distance p) i) a) ≡ false
  ends-below a e m = ⊎_elim yes (λ x. and_no (corrected T p n i) _ x) (tell (ends T n (edge_of T (height p) (distance p) i) a))
    where
      no-bit : n + (way T (height p) (distance p) i).sheet.less - (way T (height p) (distance p) i).sheet.more ≡ a.round → corrected T p n i ≡ false
      no-bit f =
          let t = three p r in
          let rise = (way-opposed T S (height p) (distance p) i r l).rise in
          let g : length p.receipts ≤ n = omega (arith, rise) in
          let top : Clear (way T (height p) (distance p) i).sheet (last p - n) → ⊥ = λ x. omega (arith, rise) in
          held-edge T p n i g ∙ and-not (edged T p n i) _ (refuted (edged T p n i) (λ x. top (edged-clear T p n i x)))

      yes : ends T n (edge_of T (height p) (distance p) i) a ≡ true → (corrected T p n i && ends T n (edge_of T (height p) (distance p) i) a) ≡ false
      yes x =
          and-not (corrected T p n i) _
          (⊎_elim (λ y. let z = ap (λ (b : Spot). b.round) y in absurd (omega arith)) (λ y. no-bit (ap (λ (b : Spot). b.round) y)) (ends_at T n (edge_of T (height p) (distance p) i) a x))
