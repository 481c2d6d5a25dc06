-- ROUND keeps the conservation clause. Assumes nothing.
use Rattle.std.specs.Prelude.{ℕ, ◌+◌, ◌%◌, ◌≤◌, ◌<◌, ◌≡◌, refl, Bool, true, false, ◌&&◌, List, eqb, get_or}
use native.Mathlib.Omega.{arith}
use Rattle.std.proofs.Common.{sym, ◌∙◌}
use Rattle.std.proofs.Math.Path.{ap, ap₂}
use Rattle.std.proofs.Math.Logic.{⊎_elim}
use Rattle.list.specs.Sheet.{are_bits}
use Rattle.layers.specs.Layers.{edge_of, layer_edges}
use Rattle.shape.specs.Choice.{order}
use Rattle.shape.specs.Ranges.{Ranged}
use Rattle.steps.specs.Steps.{Table}
use Rattle.window.specs.Lists.{bit, xor}
use Rattle.window.specs.LawsLists.{and-not}
use Rattle.window.specs.Round.{rounded}
use Rattle.steps.specs.Suited.{Suited}
use Rattle.closure.specs.Facts.{Facts}
use Rattle.law.specs.Law.{Played, Spot, ends, height, distance, last, entry}
use Rattle.law.specs.Everywhere.{Detector, received, Conserved}
use Rattle.law_holds.specs.Rules.{taken}
use Rattle.law.specs.Bits.{xor-none, none-xor, byte-bit}
use Rattle.law_holds.specs.Sums.{parity, parity-more, parity-same, parity-none}
use Rattle.law_holds.specs.Receipts.{later}
use Rattle.law_holds.specs.Conserved.{ended, ended-none, corrected, charge, charged, conserved-by}
use Rattle.law_holds.specs.RoundEdges.{old-edge, new-edge, ends-below}
use Rattle.law_holds.specs.RoundDefects.{old-defect, new-defect, old-received, new-received}

module _ (T : Table) (S : Suited T) (p : Played) (defects : List ℕ) (f : Facts T p.window) where
  abbrev r : Ranged (height p) (distance p)
  r = f.ranged

  abbrev after : Played
  after = taken T p defects

  abbrev h : ℕ
  h = height p

  abbrev d : ℕ
  d = distance p

  abbrev E : ℕ
  E = layer_edges T h d

  abbrev terms : (ℕ → ℕ → Bool) → Spot → ℕ → Bool
  terms sort a n = parity E (λ i. sort n i && ends T n (edge_of T h d i) a)

  ended-after : (a : Spot) → ended T after (corrected T after) a ≡ ended T p (corrected T p) a
  unfolding rounded
  ended-after a =
      ap (λ (k : ℕ). parity (k + 1) (terms (corrected T after) a)) (later T p defects)
      ∙ parity-more (terms (corrected T after) a) (last p + 1)
      ∙ ap₂ (λ (x y : Bool). xor x y)
      (parity-same (terms (corrected T after) a) (terms (corrected T p) a) (last p + 1) (λ n m.
      let high : n ≤ last p = omega arith in
      parity-same _ (λ i. corrected T p n i && ends T n (edge_of T h d i) a) E (λ i l. ap (λ (b : Bool). b && ends T n (edge_of T h d i) a) (old-edge T S p defects f n i l high))))
      (parity-none (λ i. corrected T after (last p + 1) i && ends T (last p + 1) (edge_of T h d i) a) E (λ i l. and-not _ _ (new-edge T S p defects f (last p + 1) i l refl)))
      ∙ xor-none (ended T p (corrected T p) a)

  ended-new : (a : Spot) → a.round ≡ last p + 1 → ended T p (corrected T p) a ≡ false
  ended-new a e =
      ended-none T p (corrected T p) a (λ n i m l. let high : n ≤ last p = omega arith in ends-below T S p r n i l a e high)

  pub conserved-round : are_bits defects ≡ true → Conserved T p → Conserved T after
  unfolding rounded
  conserved-round bits c = conserved-by T after (λ a i. ⊎_elim (old a i) (new a i) (order a.round (last p + 1)))
    where
      old : (a : Spot) → Detector after a → a.round < last p + 1 → received after a % 2 ≡ bit (charge T after a)
      old a i l =
          let high : a.round ≤ last p = omega arith in
          ap (λ (n : ℕ). n % 2) (old-received T p defects a high)
          ∙ charged T p c a (record { arrived = high; row = i.row; west = i.west; east = i.east })
          ∙ ap bit (sym (ap₂ (λ (x y : Bool). xor x y) (ended-after a) (old-defect T p defects r a i.row i.west i.east high)))

      new : (a : Spot) → Detector after a → last p + 1 ≤ a.round → received after a % 2 ≡ bit (charge T after a)
      new a i l =
          let f = later T p defects in
          let e : a.round ≡ last p + 1 = omega (arith, i.arrived) in
          ap (λ (n : ℕ). n % 2) (new-received T p defects r a e)
          ∙ byte-bit defects bits (entry p a)
          ∙ ap bit (sym (ap₂ (λ (x y : Bool). xor x y) (ended-after a ∙ ended-new a e) (new-defect T p defects r a i.row i.west i.east e) ∙ none-xor (eqb (get_or defects (entry p a) 0) 1)))
