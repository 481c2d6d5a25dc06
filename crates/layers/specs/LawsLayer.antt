-- Document 01's edges of a layer and their numbers, for all shapes: from a number to its edge and back. Assumes nothing.
use Rattle.std.specs.Prelude.{ℕ, ◌+◌, ◌≤◌, ◌<◌}
use Rattle.layers.specs.declared.Edge.{Edge}

abbrev edge : ℕ → ℕ → ℕ → Edge
edge k r c = record { kind = k; row = r; column = c }

-- the edges that a layer has: along a row, between two rows, to the sheet above
pub data Has0 (h d : ℕ) : Edge → Type 0 where
  along : (r c : ℕ) → r < h → c < d → Has0 h d (edge 0 r c)
  between : (r c : ℕ) → r + 1 < h → 1 ≤ c → c < d → Has0 h d (edge 1 r c)
  above : (r c : ℕ) → r < h → 1 ≤ c → c < d → Has0 h d (edge 2 r c)
