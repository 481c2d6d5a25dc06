-- THE EDGES OF A LAYER AND THEIR NUMBERS, for any table of moves: by kind, row, column, left-out ones skipped. Assumes nothing.
use Rattle.std.specs.Prelude.{ℕ, ◌+◌, ◌*◌, Bool, ◌&&◌, ◌||◌, ltb, leb}
use Rattle.std.proofs.Math.Bool.{not}
use Rattle.shape.specs.Nodes.{count_in, place_in}
use Rattle.steps.specs.Steps.{Table, step, namer, fits, stays, beside, both_detectors}
use Rattle.layers.specs.declared.Edge.{Edge}
use Rattle.shape.specs.declared.Place.{Place}
use Rattle.steps.specs.declared.Step.{Step}
use Rattle.steps.specs.Ranks.{rank, pick}

-- THE DEFINITION

abbrev pub spot : ℕ → ℕ → ℕ → Place
spot depth r c = record { depth = depth; row = r; column = c }

-- there is an edge along the step from row r and column c, in a stack of sheets without top or bottom
unfoldable pub spans : ℕ → ℕ → Step → ℕ → ℕ → Bool
spans h d st r c =
    ltb r h && leb c d
    && fits st.row r h
    && fits st.column c (d + 1)
    && not (stays st)
    && (beside st || both_detectors d st (spot 0 r c))

-- all kinds, rows and columns, counted through: kind by kind, row by row
abbrev pub edge_in : ℕ → ℕ → ℕ → Edge
edge_in h d x = let q = place_in h (d + 1) x in record { kind = q.depth; row = q.row; column = q.column }

abbrev pub count_of : ℕ → ℕ → Edge → ℕ
count_of h d e = count_in h (d + 1) (spot e.kind e.row e.column)

module _ (T : Table) (h d : ℕ) where
  abbrev pub candidates : ℕ
  candidates = T.kinds * h * (d + 1)

  -- the edge of a kind from a row and a column
  abbrev pub has : Edge → Bool
  has e = spans h d (step T (namer T e.kind)) e.row e.column

  abbrev pub has_at : ℕ → Bool
  has_at x = has (edge_in h d x)

  -- an edge's number: how many edges of the layer come before it
  unfoldable pub edge_number : Edge → ℕ
  edge_number e = rank has_at (count_of h d e)

  unfoldable pub edge_of : ℕ → Edge
  edge_of i = edge_in h d (pick has_at candidates i)

  unfoldable pub layer_edges : ℕ
  layer_edges = rank has_at candidates

-- EDGES AND NODES

-- the edge that a node names in a direction
abbrev pub edge_by : Table → ℕ → Place → Edge
edge_by T p q = record { kind = (step T p).kind; row = q.row; column = q.column }

-- the node that names an edge of the layer at depth j
abbrev pub node_of : ℕ → Edge → Place
node_of j e = spot j e.row e.column
