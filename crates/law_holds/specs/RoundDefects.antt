-- ROUND changes no defect of a round already received: those of the bottom sheet go to the escape buffer, and those of the new round are the defects received. Assumes nothing.
use Rattle.std.specs.Prelude.{ℕ, ◌+◌, ◌-◌, ◌*◌, ◌≤◌, ◌<◌, ◌≡◌, refl, Bool, ◌&&◌, List, ltb}
use native.Mathlib.Omega.{arith}
use Rattle.std.proofs.Math.Path.{sym, ap}
use Rattle.std.proofs.Common.{◌∙◌, lt-ltb, le-ltb}
use Rattle.std.proofs.Math.Bool.{not}
use Rattle.std.proofs.Math.Logic.{⊎_elim}
use Rattle.std.proofs.Math.Dec.{eqb}
use Rattle.std.proofs.Math.ListN.{length, get_or}
use Rattle.shape.specs.Choice.{if, if-true, if-false, order}
use Rattle.shape.specs.Ranges.{Ranged}
use Rattle.shape.specs.Sizes.{boundary, detectors_of}
use Rattle.shape.specs.Boundaries.{not_end}
use Rattle.shape.proofs.LawsIndex.{place-index, index-lt}
use Rattle.shape.specs.Nodes.{index_of}
use Rattle.shape.specs.Counting.{Inside, quotient, rest, before}
use Rattle.steps.specs.Steps.{Table}
use Rattle.shape.specs.declared.Place.{Place}
use Rattle.window.specs.Lists.{bit}
use Rattle.window.specs.LawsLists.{get_or-by}
use Rattle.window.specs.Window.{sheet, at}
use Rattle.window.specs.Round.{detector_at, rounded, top_node as arriving, escaped_defects as escaping}
use Rattle.closure.specs.Facts.{index-within}
use Rattle.closure.specs.After.{top-at, sunk-at}
use Rattle.closure.specs.Lower.{lower, index-lower}
use Rattle.law.specs.Law.{Played, Receipt, Spot, height, distance, sheets, last, receipt, place_now, entry}
use Rattle.law.specs.Everywhere.{received}
use Rattle.law_holds.specs.Rules.{taken}
use Rattle.law.specs.Bits.{bit-one}
use Rattle.law_holds.specs.Nodes.{defects as same-defects}
use Rattle.law_holds.specs.Receipts.{old-receipt, new-receipt, counts, later, lower-than, three}
use Rattle.law_holds.specs.Conserved.{defective, left-defect, held-defect}

module _ (T : Table) (p : Played) (defects : List ℕ) where
  abbrev after : Played
  after = taken T p defects

  abbrev count : ℕ
  count = length p.receipts

  abbrev h : ℕ
  h = height p

  abbrev d : ℕ
  d = distance p

  abbrev s : ℕ
  s = sheets p

  -- WHAT IS RECEIVED

  pub old-received : (a : Spot) → a.round ≤ last p → received after a ≡ received p a
  unfolding rounded
  old-received a high =
      ⊎_elim (λ x. if-true {A = ℕ} (ltb a.round s) 0 _ (lt-ltb _ _ x) ∙ sym (if-true {A = ℕ} (ltb a.round s) 0 _ (lt-ltb _ _ x)))
      (λ x. let m : a.round - s < count = omega arith in
      ap (λ (y : Receipt). if (ltb a.round s) 0 (get_or y.defects (entry p a) 0)) (old-receipt T p defects (a.round - s) m))
      (order a.round s)

  module _ (r : Ranged h d) where
    pub new-received : (a : Spot) → a.round ≡ last p + 1 → received after a ≡ get_or defects (entry p a) 0
    unfolding rounded
    new-received a e =
        let t = three p r in
        let x : s ≤ a.round = omega arith in
        let y : a.round - s ≡ count = omega arith in
        if-false {A = ℕ} (ltb a.round s) 0 _ (le-ltb _ _ x)
        ∙ ap (λ (z : Receipt). get_or z.defects (entry p a) 0) (ap (λ (k : ℕ). receipt after k) y ∙ new-receipt T p defects)

    -- A DEFECT AFTER ROUND

    sunk-defect : (q : Place) → Inside h d s (lower q) → (at (rounded T p.window defects) (index_of h d (lower q))).defect ≡ (at p.window (index_of h d q)).defect
    sunk-defect q i = same-defects (sunk-at T p.window (index_of h d (lower q)) (index-within h d r (lower q) i) defects (index_of h d q) (index-lower h d q))

    top-defect : (q : Place) → Inside h d s q → q.depth ≡ 0 → 1 ≤ q.column → q.column < d
        → (at (rounded T p.window defects) (index_of h d q)).defect ≡ eqb (get_or defects (q.row * (d - 1) + (q.column - 1)) 0) 1
    unfolding arriving
    top-defect q i z a b =
        let g = index_of h d q in
        let x : g < h * (d + 1) * 1 = index-lt h d 1 q (record { depth = omega arith; row = i.row; column = i.column }) in
        let l : g < sheet p.window = omega (arith, x) in
        same-defects (top-at T p.window g (index-within h d r q i) defects l)
        ∙ ap (λ (x : Place). not (boundary d x.column) && eqb (get_or defects (x.row * (d - 1) + (x.column - 1)) 0) 1) (place-index h d s q i)
        ∙ ap (λ (t : Bool). not t && eqb (get_or defects (q.row * (d - 1) + (q.column - 1)) 0) 1) (not_end d q.column a b)

    -- OF EACH SHEET

    module _ (a : Spot) (row : a.row < h) (west : 1 ≤ a.column) (east : a.column < d) where
      abbrev defect_at : ℕ → Bool
      defect_at j = (at p.window (index_of h d (record { depth = j; row = a.row; column = a.column }))).defect

      -- a sheet that left before
      defect-left : a.round < count → defective after a ≡ defective p a
      unfolding rounded
      defect-left m =
          let e = counts T p defects in
          let m' : a.round < length after.receipts = omega arith in
          left-defect after a m' ∙ ap (λ (x : Receipt). eqb (get_or x.escapes (entry p a) 0) 1) (old-receipt T p defects a.round m) ∙ sym (left-defect p a m)

      -- the bottom sheet: standing before, escaped after
      entry_lt : entry p a < detectors_of h d
      entry_lt = let x : a.column - 1 < d - 1 = omega arith in before (d - 1) a.row (a.column - 1) x h row

      entry_at : (j : ℕ) → detector_at d j (entry p a) ≡ record { depth = j; row = a.row; column = a.column }
      entry_at j =
          let x : a.column - 1 < d - 1 = omega arith in
          let y : a.column - 1 + 1 ≡ a.column = omega arith in
          rw (quotient (d - 1) a.row (a.column - 1) x, rest (d - 1) a.row (a.column - 1) x, y)

      escapes-after : a.round ≡ count → defective after a ≡ defect_at (s - 1)
      unfolding rounded escaping
      escapes-after e =
          let c = counts T p defects in
          let m : a.round < length after.receipts = omega arith in
          left-defect after a m
          ∙ ap (λ (x : Receipt). eqb (get_or x.escapes (entry p a) 0) 1) (ap (λ (k : ℕ). receipt after k) e ∙ new-receipt T p defects)
          ∙ ap (λ (x : ℕ). eqb x 1) (get_or-by (λ k. bit (at p.window (index_of h d (detector_at d (s - 1) k))).defect) (detectors_of h d) (entry p a) 0 entry_lt)
          ∙ bit-one (at p.window (index_of h d (detector_at d (s - 1) (entry p a)))).defect
          ∙ ap (λ (q : Place). (at p.window (index_of h d q)).defect) (entry_at (s - 1))

      -- a sheet of the window
      stands : count ≤ a.round → a.round ≤ last p → defective p a ≡ defect_at (last p - a.round)
      stands low high = let t = three p r in held-defect p a low high (omega arith)

      stands_after : count < a.round → a.round ≤ last p + 1 → defective after a ≡ (at (rounded T p.window defects) (index_of h d (place_now after a))).defect
      unfolding rounded
      stands_after low high =
          let t = three p r in
          let c = counts T p defects in
          held-defect after a (omega arith) (omega arith) (omega arith)

      -- no defect of a round already received changes
      pub old-defect : a.round ≤ last p → defective after a ≡ defective p a
      old-defect high = ⊎_elim defect-left (λ x. ⊎_elim above (bottom x) (order count a.round)) (order a.round count)
        where
          bottom : count ≤ a.round → a.round ≤ count → defective after a ≡ defective p a
          bottom x y =
              let t = three p r in
              let e : a.round ≡ count = omega arith in
              let j : last p - a.round ≡ s - 1 = omega arith in
              escapes-after e ∙ sym (stands x high ∙ ap defect_at j)

          above : count < a.round → defective after a ≡ defective p a
          above x =
              let t = three p r in
              let y : count ≤ a.round = omega arith in
              let z : a.round ≤ last p + 1 = omega arith in
              let m : last p - a.round + 1 < s = omega arith in
              let j : last after - a.round ≡ last p - a.round + 1 = lower-than T p defects a.round high in
              stands_after x z
              ∙ ap (λ (k : ℕ). (at (rounded T p.window defects) (index_of h d (record { depth = k; row = a.row; column = a.column }))).defect) j
              ∙ sunk-defect (place_now p a) (record { depth = m; row = row; column = omega arith })
              ∙ sym (stands y high)

      -- the new round's are those received
      pub new-defect : a.round ≡ last p + 1 → defective after a ≡ eqb (get_or defects (entry p a) 0) 1
      new-defect e =
          let t = three p r in
          let c = later T p defects in
          let x : count < a.round = omega arith in
          let y : a.round ≤ last p + 1 = omega arith in
          let j : last after - a.round ≡ 0 = omega arith in
          let z : 0 < s = omega arith in
          stands_after x y
          ∙ ap (λ (k : ℕ). (at (rounded T p.window defects) (index_of h d (record { depth = k; row = a.row; column = a.column }))).defect) j
          ∙ top-defect (record { depth = 0; row = a.row; column = a.column }) (record { depth = z; row = row; column = omega arith }) refl west east
