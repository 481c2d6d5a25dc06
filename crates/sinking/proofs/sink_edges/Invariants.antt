-- `sinking::sink_edges` meets its contract: the entries passed are those one sheet above. Assumes nothing.
use Rattle.std.proofs.Common.{◌≡◌, ℕ, ◌+◌, ◌<◌, get_or}
use Rattle.sinking.proofs.sink_edges.Given as goal

abbrev pub invariant-loop-i : goal.invariant-loop-i
invariant-loop-i l = (k : ℕ) → k < l.i → get_or l.edge-items k 0 ≡ get_or l.old (l.first + 512 + k) 0
