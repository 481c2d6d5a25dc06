-- `top_sheet::lay_edges` meets its contract: the edges passed are by the table. Assumes nothing.
use Rattle.std.proofs.Common.{◌≡◌, ℕ, ◌+◌, ◌%◌, ◌<◌, get_or}
use Rattle.top_sheet.proofs.lay_edges.Given as goal

abbrev pub invariant-loop-i : goal.invariant-loop-i
invariant-loop-i l = (k : ℕ) → k < l.i → get_or l.edge-items k 0 ≡ get_or l.table (l.from + k) 0 % 4
