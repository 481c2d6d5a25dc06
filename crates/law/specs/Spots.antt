-- Spots, and the rounds that are in the window. Assumes nothing.
use Rattle.std.specs.Prelude.{ℕ, ◌-◌, ◌≤◌, ◌<◌, ◌≡◌, refl, true, false, ◌&&◌, ◌⊎◌, leb, ltb, eqb, length}
use Rattle.std.proofs.Common.{arith, ◌∙◌, ap, inl, inr, lt-ltb, le-leb, le-ltb, ltb-true, leb-true, eqb-true, eq-eqb}
use Rattle.shape.specs.Ranges.{Ranged}
use Rattle.shape.proofs.Ranges.{halves, both}
use Rattle.shape.specs.Counting.{Inside}
use Rattle.steps.specs.Steps.{Table}
use Rattle.layers.specs.declared.Edge.{Edge}
use Rattle.shape.specs.Nodes.{index_of}
use Rattle.window.specs.LawsLists.{and_no}
use Rattle.window.specs.Window.{size}
use Rattle.closure.specs.Lists.{choice}
use Rattle.closure.specs.Facts.{index-within}
use Rattle.law.specs.Law.{Played, Spot, near_end, far_end, same, ends, place_now, height, distance, sheets, last, in_window}
use Rattle.law.specs.Everywhere.{Detector}

-- SPOTS

pub spot-by : (a b : Spot) → a.round ≡ b.round → a.row ≡ b.row → a.column ≡ b.column → a ≡ b
spot-by a b e f g =
    ap {B = Spot} (λ (n : ℕ). record { round = n; row = a.row; column = a.column }) e
    ∙ ap {B = Spot} (λ (n : ℕ). record { round = b.round; row = n; column = a.column }) f
    ∙ ap {B = Spot} (λ (n : ℕ). record { round = b.round; row = b.row; column = n }) g

same_spot : (a b : Spot) → same a b ≡ true → a ≡ b
same_spot a b e =
    let f = halves (eqb a.round b.round && eqb a.row b.row) (eqb a.column b.column) e in
    let g = halves (eqb a.round b.round) (eqb a.row b.row) f.0 in
    spot-by a b (eqb-true _ _ g.0) (eqb-true _ _ g.1) (eqb-true _ _ f.1)

pub same_self : (a : Spot) → same a a ≡ true
same_self a = both _ _ (both _ _ (eq-eqb _ a.round refl) (eq-eqb _ a.row refl)) (eq-eqb _ a.column refl)

-- an edge ends at a: one of its two ends is there
pub ends_at : (T : Table) (n : ℕ) (e : Edge) (a : Spot) → ends T n e a ≡ true → (near_end n e ≡ a) ⊎ (far_end T n e ≡ a)
ends_at T n e a t = choice (same (near_end n e) a) (same (far_end T n e) a) t (λ x. inl (same_spot (near_end n e) a x)) (λ x. inr (same_spot (far_end T n e) a x))

-- THE WINDOW'S ROUNDS

module _ (p : Played) (n : ℕ) where
  pub in_window_lem : n ≤ last p → last p - n < sheets p → in_window p n ≡ true
  in_window_lem a b = both _ _ (le-leb _ _ a) (lt-ltb _ _ b)

  pub window-in : in_window p n ≡ true → (n ≤ last p) × (last p - n < sheets p)
  window-in e = let a = halves (leb n (last p)) (ltb (last p - n) (sheets p)) e in (leb-true _ _ a.0, ltb-true _ _ a.1)

  pub below-window : sheets p ≤ last p - n → in_window p n ≡ false
  below-window l = and_no (leb n (last p)) (ltb (last p - n) (sheets p)) (le-ltb (last p - n) (sheets p) l)

  -- a round that a receipt tells of has left the window
  pub not-in-window : n < length p.receipts → in_window p n ≡ false
  not-in-window l = below-window (omega arith)

-- a detector in the window
module _ (p : Played) (a : Spot) (i : Detector p a) (l : last p - a.round < sheets p) where
  pub spot-inside : Inside (height p) (distance p) (sheets p) (place_now p a)
  spot-inside = record { depth = l; row = i.row; column = omega (arith, i.east) }

  pub spot-lt : Ranged (height p) (distance p) → index_of (height p) (distance p) (place_now p a) < size p.window
  spot-lt r = index-within (height p) (distance p) r (place_now p a) spot-inside
