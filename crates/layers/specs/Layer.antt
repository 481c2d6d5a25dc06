-- Document 01's numbers of a layer's edges, in closed form: one sheet's own, and the time edges to the sheet above. Document.antt: they are those of the
-- table of model 0. Assumes nothing.
use Rattle.std.specs.Prelude.{ℕ, ◌+◌, ◌-◌, ◌*◌, ◌/◌, ◌%◌, ltb, eqb}
use Rattle.shape.specs.Choice.{if}
use Rattle.layers.specs.declared.Edge.{Edge}

-- how many edges stand before those between rows, and before the time edges
abbrev pub row_edges : ℕ → ℕ → ℕ
row_edges h d = h * d

abbrev pub sheet_edges : ℕ → ℕ → ℕ
sheet_edges h d = h * d + (h - 1) * (d - 1)

abbrev pub row_number : ℕ → ℕ → Edge → ℕ
row_number h d e = e.row * d + e.column

abbrev pub column_number : ℕ → ℕ → Edge → ℕ
column_number h d e = h * d + e.row * (d - 1) + (e.column - 1)

abbrev pub time_number : ℕ → ℕ → Edge → ℕ
time_number h d e = h * d + (h - 1) * (d - 1) + e.row * (d - 1) + (e.column - 1)

unfoldable pub edge_number0 : ℕ → ℕ → Edge → ℕ
edge_number0 h d e =
    if (eqb e.kind 0) (row_number h d e) (if (eqb e.kind 1) (column_number h d e) (time_number h d e))

-- the nth edge of a kind, w of them to a row, from a column on
abbrev pub edge_on : ℕ → ℕ → ℕ → ℕ → Edge
edge_on kind w first n = record { kind = kind; row = n / w; column = n % w + first }

unfoldable pub edge_of0 : ℕ → ℕ → ℕ → Edge
edge_of0 h d n =
    if (ltb n (row_edges h d)) (edge_on 0 d 0 n)
    (if (ltb n (sheet_edges h d)) (edge_on 1 (d - 1) 1 (n - row_edges h d))
    (edge_on 2 (d - 1) 1 (n - sheet_edges h d)))
