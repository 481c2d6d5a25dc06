-- A ROUND'S NODES AND MARKS by entries, and what it asks of edges. Assumes nothing.
use Rattle.std.specs.Prelude.{ℕ, ◌+◌, ◌-◌, ◌*◌, ◌≤◌, ◌<◌, ◌≡◌, true, false, ◌&&◌, not, List, eqb, length, get_or}
use Rattle.shape.specs.Sizes.{boundary, nodes_of}
use Rattle.steps.specs.Steps.{Table}
use Rattle.window.specs.Round.{lowered_number}
use Rattle.flat.specs.Codes.{node_code, no_edge, growth_of, correction_of}
use Rattle.flat.specs.Entries.{margin, plane, entry, cell, within}
use Rattle.shows.specs.Sinks.{rises}
use Rattle.sinking.specs.Sunk.{settled}

-- fresh nodes with the new defects on top, and the old ones below
pub record FallsNodes (h d : ℕ) (bytes old nodes : List ℕ) : Type 0 where
  pub long : length nodes ≡ plane
  pub top : (r c : ℕ) → r < h → c ≤ d → get_or nodes (entry (r * (d + 1) + c)) 0 ≡ node_code false (not (boundary d c) && eqb (get_or bytes (r * (d - 1) + (c - 1)) 0) 1) false 0
  pub low : (x : ℕ) → margin ≤ x → x + h * (d + 1) < margin + nodes_of h d → get_or nodes (x + h * (d + 1)) 0 ≡ settled (get_or old x 0)

-- the nodes' own numbers on top, and below them the old marks, of the nodes below
pub record FallsMarks (h d : ℕ) (table old marks : List ℕ) : Type 0 where
  pub long : length marks ≡ plane
  pub top : (i : ℕ) → i < h * (d + 1) → get_or marks (entry i) 0 ≡ get_or table (entry i) 0
  pub low : (x : ℕ) → margin ≤ x → x + h * (d + 1) < margin + nodes_of h d → get_or marks (x + h * (d + 1)) 0 ≡ lowered_number h d (get_or old x 0)

-- the margins hold no edge
abbrev pub NoneOutside : Table → ℕ → ℕ → List ℕ → Type 0
NoneOutside T h d edges = (kind x : ℕ) → kind < T.kinds → x < plane → within (nodes_of h d) x ≡ false → growth_of (get_or edges (cell kind x) 0) ≡ no_edge

-- no edge up from the top sheet is corrected
abbrev pub NoneAbove : Table → ℕ → ℕ → List ℕ → Type 0
NoneAbove T h d edges = (kind i : ℕ) → kind < T.kinds → rises T kind ≡ true → i < h * (d + 1) → correction_of (get_or edges (cell kind (entry i)) 0) ≡ false
