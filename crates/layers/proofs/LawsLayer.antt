-- Document 01's edges of a layer and their numbers, for all shapes: from a number to its edge and back. Assumes nothing.
use Rattle.std.specs.Prelude.{ℕ, ◌+◌, ◌-◌, ◌*◌, ◌/◌, ◌%◌, ◌≤◌, ◌<◌, ◌≡◌}
use Rattle.std.proofs.Common.{mod-lt, div-lt_iff_lt-mul, arith}
use Rattle.std.proofs.Math.Nat.{div-add-mod'}
use Rattle.std.proofs.Math.Logic.{⊎_elim}
use Rattle.shape.specs.Choice.{order}
use Rattle.shape.specs.Sizes.{plain_edges}
use Rattle.layers.specs.Layer.{edge_number0, edge_on, edge_of0, row_edges, sheet_edges}
use Rattle.layers.specs.Cases.{edge_row, edge-column, edge-time}
use Rattle.layers.specs.LawsLayer.{Has0, above, along, between}

module _ (h d : ℕ) (d2 : 2 ≤ d) where
  has-row : (n : ℕ) → n < row_edges h d → Has0 h d (edge_on 0 d 0 n)
  has-row n l =
      let d0 : 0 < d = omega arith in
      along (n / d) (n % d + 0) ((div-lt_iff_lt-mul d0).1 l) (omega (arith, mod-lt n d0))

  has-column : (n : ℕ) → n < (h - 1) * (d - 1) → Has0 h d (edge_on 1 (d - 1) 1 n)
  has-column n l =
      let d0 : 0 < d - 1 = omega arith in
      between (n / (d - 1)) (n % (d - 1) + 1) (omega (arith, (div-lt_iff_lt-mul d0).1 l)) (omega arith) (omega (arith, mod-lt n d0))

  has-time : (n : ℕ) → n < h * (d - 1) → Has0 h d (edge_on 2 (d - 1) 1 n)
  has-time n l =
      let d0 : 0 < d - 1 = omega arith in
      above (n / (d - 1)) (n % (d - 1) + 1) ((div-lt_iff_lt-mul d0).1 l) (omega arith) (omega (arith, mod-lt n d0))

  pub number-has0 : (n : ℕ) → n < plain_edges h d → Has0 h d (edge_of0 h d n)
  number-has0 n l =
      ⊎_elim (λ a. rw (edge_row h d n a) (has-row n a))
      (λ a. ⊎_elim (λ b. rw (edge-column h d n a b) (has-column (n - row_edges h d) (omega arith)))
      (λ b. rw (edge-time h d n b) (has-time (n - sheet_edges h d) (omega arith)))
      (order n (sheet_edges h d)))
      (order n (row_edges h d))

  pub number-edge0 : (n : ℕ) → n < plain_edges h d → edge_number0 h d (edge_of0 h d n) ≡ n
  unfolding edge_number0
  number-edge0 n l = ⊎_elim row (λ a. ⊎_elim (column a) time (order n (sheet_edges h d))) (order n (row_edges h d))
    where
      row : n < row_edges h d → edge_number0 h d (edge_of0 h d n) ≡ n
      row a = rw (edge_row h d n a) (omega (arith, div-add-mod' n d))

      column : row_edges h d ≤ n → n < sheet_edges h d → edge_number0 h d (edge_of0 h d n) ≡ n
      column a b = rw (edge-column h d n a b) (omega (arith, div-add-mod' (n - row_edges h d) (d - 1)))

      time : sheet_edges h d ≤ n → edge_number0 h d (edge_of0 h d n) ≡ n
      time b = rw (edge-time h d n b) (omega (arith, div-add-mod' (n - sheet_edges h d) (d - 1)))
