-- MERGING keeps the conservation clause. Assumes nothing.
use Rattle.std.specs.Prelude.{ℕ, ◌+◌, ◌-◌, ◌≤◌, ◌<◌, ◌≡◌, Bool, true, false, ◌&&◌, List, length}
use Rattle.std.proofs.Common.{arith, ◌∙◌}
use Rattle.std.proofs.Math.Path.{sym, ap, ap₂}
use Rattle.std.proofs.Math.Logic.{⊎_elim}
use Rattle.std.proofs.Math.ListN.{get_or}
use Rattle.layers.specs.Layers.{edge_of, layer_edges}
use Rattle.shape.specs.Choice.{tell, order}
use Rattle.shape.specs.Sizes.{boundary}
use Rattle.shape.specs.Boundaries.{not_end}
use Rattle.shape.specs.Nodes.{index_of}
use Rattle.shape.proofs.LawsIndex.{place-index}
use Rattle.steps.specs.Steps.{Table, slot}
use Rattle.shape.specs.declared.Place.{Place}
use Rattle.window.specs.Lists.{bit, xor}
use Rattle.window.specs.LawsLists.{and_no, and-not}
use Rattle.window.specs.Window.{is_merging, reach, present, at, place}
use Rattle.window.specs.Merging.{merged}
use Rattle.window.specs.declared.Window.{Window}
use Rattle.steps.specs.Suited.{Suited}
use Rattle.closure.specs.Facts.{Facts}
use Rattle.law.specs.Law.{Played, Spot, ends, height, distance, sheets, last, in_window, place_now, committed, standing, escaped, pending}
use Rattle.law.specs.Everywhere.{Detector, Conserved}
use Rattle.law_holds.specs.Rules.{with_window}
use Rattle.law.specs.Bits.{refuted, xor-laws}
use Rattle.law_holds.specs.Sums.{parity}
use Rattle.law.specs.Spots.{ends_at, in_window_lem, window-in, below-window, spot-inside, spot-lt}
use Rattle.law_holds.specs.Conserved.{ended, ended-xor, ended-none, edged, slot_of, defective, charge, charged, conserved-by}
use Rattle.law_holds.specs.LayerEdges.{way_up}
use Rattle.law_holds.specs.Around.{around}
use Rattle.law_holds.specs.Pushed.{pushed}

module _ (T : Table) (S : Suited T) (p : Played) (f : Facts T p.window) (st : is_merging p.window.stage ≡ true) where
  abbrev w : Window
  w = p.window

  abbrev h : ℕ
  h = height p

  abbrev d : ℕ
  d = distance p

  abbrev s : ℕ
  s = sheets p

  abbrev after : Played
  after = with_window p (merged T w)

  abbrev slots : (ℕ → Bool) → Spot → Bool
  slots C a = ended T p (λ n i. edged T p n i && C (slot_of T p n i)) a

  -- what is pending, and standing, at a detector of the window
  module _ (a : Spot) (i : Detector p a) (l : last p - a.round < s) where
    abbrev g : ℕ
    g = index_of h d (place_now p a)

    at_g : place w g ≡ place_now p a
    at_g = place-index h d s (place_now p a) (spot-inside p a i l)

    det : boundary d (place w g).column ≡ false
    det = ap (λ (q : Place). boundary d q.column) at_g ∙ not_end d a.column i.west i.east

    abbrev sum_at : List Bool → Place → Bool
    sum_at correction q = parity (length T.steps) (λ x. (reach T h d (present w) (x + 1) q).there && get_or correction (slot T h d (x + 1) q) false)

    inside : xor (slots (λ k. get_or (merged T w).correction k false) a) (in_window p a.round && (at (merged T w) g).defect)
        ≡ xor (slots (λ k. get_or w.correction k false) a) (in_window p a.round && (at w g).defect)
    inside =
        let x = in_window_lem p a.round i.arrived l in
        ap₂ (λ (c b : Bool). xor c (b && (at (merged T w) g).defect)) (around T S p f.ranged a i.arrived (λ k. get_or (merged T w).correction k false) ∙ ap (sum_at (merged T w).correction) (sym at_g)) x
        ∙ pushed T w S f st g (spot-lt p a i l f.ranged) det
        ∙ sym (ap₂ (λ (c b : Bool). xor c (b && (at w g).defect)) (around T S p f.ranged a i.arrived (λ k. get_or w.correction k false) ∙ ap (sum_at w.correction) (sym at_g)) x)

  -- at a detector that has left it: nothing
  module _ (a : Spot) (l : s ≤ last p - a.round) where
    no_end_lem : (n i : ℕ) → i < layer_edges T h d → in_window p n ≡ true → ends T n (edge_of T h d i) a ≡ true → ⊥
    no_end_lem n i m b t =
        let e = edge_of T h d i in
        let x = window-in p n b in
        let lo = x.0 in
        let hi = x.1 in
        let u = way_up T S h d i f.ranged m in
        ⊎_elim (λ y. let z = ap (λ (c : Spot). c.round) y in omega arith) (λ y. let z = ap (λ (c : Spot). c.round) y in omega arith) (ends_at T n e a t)

    outside : (C : ℕ → Bool) → slots C a ≡ false
    outside C =
        ended-none T p (λ n i. edged T p n i && C (slot_of T p n i)) a
        (λ n i m k. ⊎_elim
        (λ b. and_no (edged T p n i && C (slot_of T p n i)) _ (refuted (ends T n (edge_of T h d i) a) (λ t. no_end_lem n i k b t)))
        (λ b. and-not _ _ (and-not (edged T p n i) _ (and-not (in_window p n) _ b)))
        (tell (in_window p n)))

  -- what is pending and standing is conserved
  kept : (a : Spot) → Detector p a → xor (ended T p (pending T after) a) (standing after a) ≡ xor (ended T p (pending T p) a) (standing p a)
  unfolding merged
  kept a i =
      ⊎_elim (inside a i)
      (λ l. ap₂ (λ (x b : Bool). xor x (b && (at (merged T w) (index_of h d (place_now p a))).defect)) (outside a l (λ k. get_or (merged T w).correction k false)) (below-window p a.round l)
      ∙ sym (ap₂ (λ (x b : Bool). xor x (b && (at w (index_of h d (place_now p a))).defect)) (outside a l (λ k. get_or w.correction k false)) (below-window p a.round l)))
      (order (last p - a.round) s)

  charge-kept : (a : Spot) → Detector p a → charge T after a ≡ charge T p a
  unfolding merged
  charge-kept a i =
      let c = ended T p (committed p) a in
      let y = ended T p (pending T p) a in
      let y' = ended T p (pending T after) a in
      let e = escaped p a in
      ap (λ (x : Bool). xor x (defective after a)) (sym (ended-xor T p (committed p) (pending T after) a))
      ∙ regroup c y' (standing after a) e
      ∙ ap (λ (x : Bool). xor c (xor x e)) (kept a i)
      ∙ sym (regroup c y (standing p a) e)
      ∙ ap (λ (x : Bool). xor x (defective p a)) (ended-xor T p (committed p) (pending T p) a)
    where
      regroup : (c y s e : Bool) → xor (xor c y) (xor s e) ≡ xor c (xor (xor y s) e)
      regroup c y s e = simp xor-laws

  pub conserved-merging : Conserved T p → Conserved T after
  unfolding merged
  conserved-merging c =
      conserved-by T after
      (λ a i.
      let i' : Detector p a = record { arrived = i.arrived; row = i.row; west = i.west; east = i.east } in
      charged T p c a i' ∙ ap bit (sym (charge-kept a i')))
