-- The document's numbers: places and numbers, there and back, for all shapes; boundary nodes precede detectors, and higher precedes lower. Assumes nothing.
use Rattle.std.specs.Prelude.{ℕ, ◌+◌, ◌-◌, ◌*◌, ◌≤◌, ◌<◌, ◌≡◌, true, false}
use Rattle.std.proofs.Common.{arith, sym, ◌∙◌, ap, ⊎_elim}
use Rattle.shape.specs.Choice.{tell, order}
use Rattle.shape.specs.Sizes.{nodes_in, boundary}
use Rattle.shape.specs.Nodes.{number_of, place_of, boundary_nodes, count_in, place_in, sided, inner}
use Rattle.shape.proofs.Cases.{number-side, number-inner, place-side, place-inner}
use Rattle.shape.specs.Counting.{Inside, Within, count-place, place-count, count-lt, within-place, count-higher}
use Rattle.shape.specs.Totals.{sideways, inwards}
use Rattle.shape.proofs.Totals.{twice, total, boundary-count, detector-count}
use Rattle.shape.specs.Boundaries.{between, not_end, side-lt, column-side, side-column, column-end, column-le}
use Rattle.shape.specs.declared.Place.{Place}
use Rattle.shape.specs.LawsNumber.{at, numbered}

module _ (h d : ℕ) (q : Place) where
  pub number-boundary : boundary d q.column ≡ true → number_of h d q ≡ count_in h 2 (sideways q)
  number-boundary e = number-side h d q e ∙ boundary-count h q

  pub number-detector : boundary d q.column ≡ false → number_of h d q ≡ boundary_nodes h d + count_in h (d - 1) (inwards q)
  number-detector e = number-inner h d q e ∙ detector-count h d q

module _ (h d : ℕ) (d2 : 2 ≤ d) where
  nodes : nodes_in h d (numbered d) ≡ boundary_nodes h d + numbered d * h * (d - 1)
  nodes = total h d (numbered d) (omega arith)

  module _ (q : Place) (i : Inside h d (numbered d) q) where
    on-side : Within h 2 (numbered d) (sideways q)
    on-side = record { depth = i.depth; row = i.row; column = side-lt q.column }

    boundary-lt : count_in h 2 (sideways q) < boundary_nodes h d
    boundary-lt = rw (twice h (numbered d)) (count-lt h 2 (numbered d) (sideways q) on-side)

    within : boundary d q.column ≡ false → Within h (d - 1) (numbered d) (inwards q)
    within e =
        let b = between d q.column e i.column in
        record { depth = i.depth; row = i.row; column = omega (arith, b.0, b.1) }

    pub number_lt : number_of h d q < nodes_in h d (numbered d)
    number_lt =
        ⊎_elim (λ e. omega (arith, number-boundary h d q e, boundary-lt, nodes))
        (λ e. omega (arith, number-detector h d q e, count-lt h (d - 1) (numbered d) (inwards q) (within e), nodes))
        (tell (boundary d q.column))

    pub place-number : place_of h d (number_of h d q) ≡ q
    place-number = ⊎_elim west-east inside (tell (boundary d q.column))
      where
        west-east : boundary d q.column ≡ true → place_of h d (number_of h d q) ≡ q
        west-east e =
            rw (number-boundary h d q e)
            (place-side h d (count_in h 2 (sideways q)) boundary-lt
            ∙ ap (λ (p : Place). sided d p) (place-count h 2 (numbered d) (sideways q) on-side)
            ∙ ap (λ (c : ℕ). at q c) (column-side d q.column e))

        inside : boundary d q.column ≡ false → place_of h d (number_of h d q) ≡ q
        inside e =
            let n = count_in h (d - 1) (inwards q) in
            let m : boundary_nodes h d + n - boundary_nodes h d ≡ n = omega arith in
            let b = between d q.column e i.column in
            let c : q.column - 1 + 1 ≡ q.column = omega (arith, b.0) in
            rw (number-detector h d q e)
            (place-inner h d (boundary_nodes h d + n) (omega arith)
            ∙ ap (λ (x : ℕ). inner (place_in h (d - 1) x)) m
            ∙ ap inner (place-count h (d - 1) (numbered d) (inwards q) (within e))
            ∙ ap (λ (x : ℕ). at q x) c)

    -- boundary nodes precede detectors
    pub boundary-first : (q' : Place) → boundary d q.column ≡ true → boundary d q'.column ≡ false → number_of h d q < number_of h d q'
    boundary-first q' e f = omega (arith, number-boundary h d q e, boundary-lt, number-detector h d q' f)

    -- higher precedes lower
    pub boundary-higher : (q' : Place) → boundary d q.column ≡ true → boundary d q'.column ≡ true → q.depth < q'.depth → number_of h d q < number_of h d q'
    boundary-higher q' e f l =
        omega (arith, number-boundary h d q e, number-boundary h d q' f, count-higher h 2 (numbered d) (sideways q) (sideways q') on-side l)

    pub detector-higher : (q' : Place) → boundary d q.column ≡ false → boundary d q'.column ≡ false → q.depth < q'.depth → number_of h d q < number_of h d q'
    detector-higher q' e f l =
        omega (arith, number-detector h d q e, number-detector h d q' f, count-higher h (d - 1) (numbered d) (inwards q) (inwards q') (within e) l)

  pub number-injective : (q q' : Place) → Inside h d (numbered d) q → Inside h d (numbered d) q' → number_of h d q ≡ number_of h d q' → q ≡ q'
  number-injective q q' i j e = sym (place-number q i) ∙ ap (λ (n : ℕ). place_of h d n) e ∙ place-number q' j

  module _ (h1 : 1 ≤ h) (n : ℕ) (l : n < nodes_in h d (numbered d)) where
    module _ (b : n < boundary_nodes h d) where
      west-within : Within h 2 (numbered d) (place_in h 2 n)
      west-within = within-place h 2 (numbered d) n h1 (omega arith) (rw (twice h (numbered d)) at b)

      west-inside : Inside h d (numbered d) (place_of h d n)
      west-inside =
          rw (place-side h d n b) (record { depth = west-within.depth; row = west-within.row; column = column-le d (place_in h 2 n).column })

      west-number : number_of h d (place_of h d n) ≡ n
      west-number =
          let p = place_in h 2 n in
          rw (place-side h d n b)
          (number-boundary h d (sided d p) (column-end d p.column)
          ∙ ap (λ (c : ℕ). count_in h 2 (at p c)) (side-column d p.column (omega arith) west-within.column)
          ∙ count-place h 2 n)

    module _ (b : boundary_nodes h d ≤ n) where
      abbrev rest : ℕ
      rest = n - boundary_nodes h d

      inner-within : Within h (d - 1) (numbered d) (place_in h (d - 1) rest)
      inner-within = within-place h (d - 1) (numbered d) rest h1 (omega arith) (omega (arith, nodes))

      inner-inside : Inside h d (numbered d) (place_of h d n)
      inner-inside =
          rw (place-inner h d n b) (record { depth = inner-within.depth; row = inner-within.row; column = omega (arith, inner-within.column) })

      inner-number : number_of h d (place_of h d n) ≡ n
      inner-number =
          let p = place_in h (d - 1) rest in
          let w = inner-within.column in
          let c : p.column + 1 - 1 ≡ p.column = omega arith in
          rw (place-inner h d n b)
          (number-detector h d (inner p) (not_end d (p.column + 1) (omega arith) (omega arith))
          ∙ ap (λ (x : ℕ). boundary_nodes h d + count_in h (d - 1) (at p x)) c
          ∙ omega (arith, count-place h (d - 1) rest))

    pub number-inside : Inside h d (numbered d) (place_of h d n)
    number-inside = ⊎_elim west-inside inner-inside (order n (boundary_nodes h d))

    pub number-place : number_of h d (place_of h d n) ≡ n
    number-place = ⊎_elim west-number inner-number (order n (boundary_nodes h d))
