-- The receipts after one more round. Assumes nothing.
use Rattle.std.specs.Prelude.{ℕ, ◌+◌, ◌-◌, ◌≤◌, ◌<◌, ◌≡◌, List, [], ◌∷◌, length}
use native.Mathlib.Omega.{arith}
use Rattle.std.proofs.Common.{◌∙◌, ap, length-append, get_or-append-add}
use Rattle.std.proofs.Math.ListN.{get_or-append, get_or-eq_default}
use Rattle.shape.specs.Ranges.{Ranged}
use Rattle.steps.specs.Steps.{Table}
use Rattle.window.specs.Round.{rounded}
use Rattle.law.specs.Law.{Played, no_receipt, height, distance, sheets, last, receipt}
use Rattle.law_holds.specs.Rules.{receipt_for, taken}

pub no-receipt : (p : Played) (n : ℕ) → length p.receipts ≤ n → receipt p n ≡ no_receipt
no-receipt p n l = get_or-eq_default p.receipts no_receipt l

module _ (T : Table) (p : Played) (defects : List ℕ) where
  abbrev after : Played
  after = taken T p defects

  abbrev count : ℕ
  count = length p.receipts

  pub old-receipt : (n : ℕ) → n < count → receipt after n ≡ receipt p n
  old-receipt n l = get_or-append p.receipts (receipt_for T p.window defects ∷ []) no_receipt n l

  pub new-receipt : receipt after count ≡ receipt_for T p.window defects
  new-receipt =
      let e : count ≡ count + 0 = omega arith in
      ap (λ (n : ℕ). receipt after n) e ∙ get_or-append-add p.receipts (receipt_for T p.window defects ∷ []) 0 no_receipt

  pub counts : length after.receipts ≡ count + 1
  counts = length-append p.receipts (receipt_for T p.window defects ∷ [])

  pub later : last after ≡ last p + 1
  unfolding rounded
  later = let e = counts in omega arith

  pub lower-than : (n : ℕ) → n ≤ last p → last after - n ≡ last p - n + 1
  lower-than n l = let e = later in omega arith

-- a window has three sheets or more
pub three : (p : Played) → Ranged (height p) (distance p) → 3 ≤ sheets p
three p r = let x = r.d2 in omega arith
