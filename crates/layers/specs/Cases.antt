-- The edge of a number, at each outcome of the tests. Assumes nothing.
use Rattle.std.specs.Prelude.{ℕ, ◌-◌, ◌≤◌, ◌<◌, ◌≡◌}
use Rattle.std.proofs.Common.{◌∙◌, arith, lt-ltb, le-ltb}
use Rattle.shape.specs.Choice.{if-true, if-false}
use Rattle.layers.specs.Layer.{edge_on, edge_of0, row_edges, sheet_edges}

module _ (h d n : ℕ) where
  pub edge_row : n < row_edges h d → edge_of0 h d n ≡ edge_on 0 d 0 n
  unfolding edge_of0
  edge_row l = if-true _ _ _ (lt-ltb n (row_edges h d) l)

  pub edge-column : row_edges h d ≤ n → n < sheet_edges h d → edge_of0 h d n ≡ edge_on 1 (d - 1) 1 (n - row_edges h d)
  unfolding edge_of0
  edge-column a l = if-false _ _ _ (le-ltb n (row_edges h d) a) ∙ if-true _ _ _ (lt-ltb n (sheet_edges h d) l)

  pub edge-time : sheet_edges h d ≤ n → edge_of0 h d n ≡ edge_on 2 (d - 1) 1 (n - sheet_edges h d)
  unfolding edge_of0
  edge-time a = if-false _ _ _ (le-ltb n (row_edges h d) (omega arith)) ∙ if-false _ _ _ (le-ltb n (sheet_edges h d) a)
