-- NUMBERS ONE SHEET DOWN: a mark moves as its node does, and the order stays. Assumes nothing.
use Rattle.std.specs.Prelude.{ℕ, ◌+◌, ◌-◌, ◌*◌, ◌≤◌, ◌<◌, ◌≡◌, refl, Bool, false, ltb}
use Rattle.std.proofs.Common.{arith, ◌∙◌, lt-ltb, le-ltb}
use Rattle.std.proofs.Math.Path.{sym}
use Rattle.std.proofs.Math.Bool.{true}
use Rattle.std.proofs.Math.Logic.{⊎_elim}
use Rattle.shape.specs.Boundaries.{between, side-lt}
use Rattle.shape.proofs.Cases.{number-side, number-inner}
use Rattle.shape.specs.Choice.{if-true, if-false, tell}
use Rattle.shape.specs.Counting.{Inside, count-lt}
use Rattle.shape.proofs.LawsNumber.{number-boundary, number-detector, boundary-first}
use Rattle.shape.specs.Nodes.{number_of, boundary_nodes}
use Rattle.shape.specs.Sizes.{sheets_of, boundary}
use Rattle.shape.specs.Totals.{sideways, inwards}
use Rattle.shape.proofs.Totals.{twice, by-sheets}
use Rattle.shape.specs.declared.Place.{Place}
use Rattle.window.specs.Round.{lowered_number}
use Rattle.closure.specs.Lower.{lower}

module _ (h d : ℕ) (q : Place) where
  number-side-lower : boundary d q.column ≡ true → number_of h d (lower q) ≡ number_of h d q + 2 * h
  number-side-lower e = number-side h d (lower q) e ∙ omega (arith, number-side h d q e)

  number-inner-lower : boundary d q.column ≡ false → number_of h d (lower q) ≡ number_of h d q + h * (d - 1)
  number-inner-lower e = number-inner h d (lower q) e ∙ omega (arith, number-inner h d q e)

  module _ (i : Inside h d (sheets_of d) q) where
    side-low : boundary d q.column ≡ true → number_of h d q < 2 * h * sheets_of d
    side-low e =
        omega (arith, number-boundary h d q e, twice h (sheets_of d), count-lt h 2 (sheets_of d) (sideways q) (record { depth = i.depth; row = i.row; column = side-lt q.column }))

    inner-low : boundary d q.column ≡ false → number_of h d q < boundary_nodes h d + h * (d - 1) * sheets_of d
    inner-low e =
        let b = between d q.column e i.column in
        omega (
          arith,
          number-detector h d q e,
          by-sheets h (d - 1) (sheets_of d),
          count-lt h (d - 1) (sheets_of d) (inwards q) (record { depth = i.depth; row = i.row; column = omega (arith, b.0, b.1) }),
        )

    -- the mark of a node of the window becomes that of the node below
    pub number-lowered : lowered_number h d (number_of h d q) ≡ number_of h d (lower q)
    unfolding lowered_number
    number-lowered = ⊎_elim outer inner (tell (boundary d q.column))
      where
        outer : boundary d q.column ≡ true → lowered_number h d (number_of h d q) ≡ number_of h d (lower q)
        outer e = if-true (ltb (number_of h d q) (2 * h * sheets_of d)) _ _ (lt-ltb _ _ (side-low e)) ∙ sym (number-side-lower e)

        inner : boundary d q.column ≡ false → lowered_number h d (number_of h d q) ≡ number_of h d (lower q)
        inner e =
            let b : boundary_nodes h d ≤ number_of h d q = omega (arith, number-detector h d q e) in
            let a : 2 * h * sheets_of d ≤ number_of h d q = omega (arith, b) in
            if-false (ltb (number_of h d q) (2 * h * sheets_of d)) _ _ (le-ltb _ _ a)
            ∙ if-false (ltb (number_of h d q) (boundary_nodes h d)) _ _ (le-ltb _ _ b)
            ∙ if-true (ltb (number_of h d q) (boundary_nodes h d + h * (d - 1) * sheets_of d)) _ _ (lt-ltb _ _ (inner-low e))
            ∙ sym (number-inner-lower e)

module _ (h d : ℕ) (d2 : 2 ≤ d) (q q' : Place) (i : Inside h d (sheets_of d) q) (j : Inside h d (sheets_of d) q') (l : number_of h d q ≤ number_of h d q') where
  -- of two nodes the one with the higher number keeps it
  pub number-order : number_of h d (lower q) ≤ number_of h d (lower q')
  number-order = go (boundary d q.column) (boundary d q'.column) refl refl
    where
      go : (a b : Bool) → boundary d q.column ≡ a → boundary d q'.column ≡ b → number_of h d (lower q) ≤ number_of h d (lower q')
      go true true e f = omega (arith, number-side-lower h d q e, number-side-lower h d q' f, l)
      go true false e f = omega (arith, boundary-first h d d2 (lower q) (record { depth = omega (arith, i.depth); row = i.row; column = i.column }) (lower q') e f)
      go false true e f = absurd (omega (arith, l, number-side-lower h d q' f, number-inner-lower h d q e, boundary-first h d d2 q' (record { depth = omega (arith, j.depth); row = j.row; column = j.column }) q f e))
      go false false e f = omega (arith, number-inner-lower h d q e, number-inner-lower h d q' f, l)
