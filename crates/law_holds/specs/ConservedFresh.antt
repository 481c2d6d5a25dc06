-- A FRESH WINDOW has the conservation clause. Assumes nothing.
use Rattle.std.specs.Prelude.{ℕ, ◌-◌, ◌%◌, ◌<◌, ◌≡◌, Bool, true, ltb}
use native.Mathlib.Omega.{arith}
use Rattle.std.proofs.Common.{sym, ◌∙◌, ap₂, lt-ltb}
use Rattle.std.proofs.Math.Path.{ap}
use Rattle.std.proofs.Math.Bool.{false}
use Rattle.shape.specs.Choice.{if-true}
use Rattle.shape.specs.Sizes.{in_range}
use Rattle.shape.proofs.Ranges.{ranged}
use Rattle.shape.specs.Nodes.{index_of}
use Rattle.steps.specs.Steps.{Table}
use Rattle.shape.specs.declared.Shape.{Shape}
use Rattle.window.specs.Lists.{bit, xor}
use Rattle.window.specs.LawsLists.{and_no, and-not, get_or-same}
use Rattle.window.specs.Fresh.{slots_of, fresh_window}
use Rattle.closure.specs.After.{fresh_at}
use Rattle.law.specs.Law.{Played, Spot, start, sheets, last, in_window, place_now, standing}
use Rattle.law.specs.Everywhere.{Detector, Conserved}
use Rattle.law_holds.specs.Nodes.{defects}
use Rattle.law.specs.Spots.{spot-lt}
use Rattle.law_holds.specs.Conserved.{ended-none, edged, slot_of, corrected, defective, conserved-by}

module _ (T : Table) (sh : Shape) (e : in_range sh.height sh.distance ≡ true) where
  abbrev fresh : Played
  fresh = start (fresh_window T sh)

  fresh-edge : (n i : ℕ) → corrected T fresh n i ≡ false
  unfolding fresh_window
  fresh-edge n i = ap (λ (b : Bool). xor false b) (and_no (edged T fresh n i) _ (get_or-same false (slots_of T) (slot_of T fresh n i)))

  fresh-spot : (a : Spot) → Detector fresh a → standing fresh a ≡ false
  unfolding fresh_window
  fresh-spot a i =
      let l : last fresh - a.round < sheets fresh = omega arith in
      and_no (in_window fresh a.round) _ (defects (fresh_at T sh (index_of sh.height sh.distance (place_now fresh a)) (spot-lt fresh a i l (ranged _ _ e))))

  pub conserved-fresh : Conserved T fresh
  unfolding fresh_window
  conserved-fresh =
      conserved-by T fresh
      (λ a i.
      let x = ended-none T fresh (corrected T fresh) a (λ n j l k. and-not _ _ (fresh-edge n j)) in
      let l : a.round < sheets fresh = omega (arith, i.arrived) in
      let y : defective fresh a ≡ false = ap (λ (b : Bool). xor b false) (fresh-spot a i) in
      ap (λ (n : ℕ). n % 2) (if-true {A = ℕ} (ltb a.round (sheets fresh)) 0 _ (lt-ltb _ _ l))
      ∙ ap bit (sym (ap₂ (λ (b c : Bool). xor b c) x y)))
