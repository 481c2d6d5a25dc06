-- ARRAYS THAT SHOW A WINDOW: each node, mark and edge written as a number at its entry. Assumes nothing.
use Rattle.std.specs.Prelude.{ℕ, ◌<◌, ◌≡◌, false, List, get_or}
use Rattle.steps.specs.Steps.{Table, slot_in}
use Rattle.window.specs.Window.{size, at}
use Rattle.window.specs.declared.Window.{Window}
use Rattle.flat.specs.Codes.{node_code, mark_code, no_edge, edge_code, growth_of}
use Rattle.flat.specs.Entries.{plane, entry, cell, within}
use Rattle.shows.specs.Shows.{held}

-- as code writes them
pub record Written (T : Table) (w : Window) (nodes marks edges : List ℕ) : Type 0 where
  pub node : (g : ℕ) → g < size w → get_or nodes (entry g) 0 ≡ node_code (at w g).active (at w g).defect (at w g).unrooted (at w g).pointer
  pub mark : (g : ℕ) → g < size w → get_or marks (entry g) 0 ≡ mark_code (at w g).mark
  pub edge : (kind g : ℕ) → kind < T.kinds → g < size w → get_or edges (cell kind (entry g)) 0 ≡ edge_code (held T w kind g) (get_or w.correction (slot_in (size w) kind g) false)
  pub margins : (kind x : ℕ) → kind < T.kinds → x < plane → within (size w) x ≡ false → growth_of (get_or edges (cell kind x) 0) ≡ no_edge
