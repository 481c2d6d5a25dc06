-- `leave::escape_row` meets its contract: the bytes passed are by the rule. Assumes nothing.
use Rattle.std.proofs.Common.{◌≡◌, ℕ, ◌+◌, ◌<◌, get_or}
use Rattle.window.specs.Lists.{bit}
use Rattle.flat.specs.Codes.{defect_of}
use Rattle.leave.proofs.escape_row.Given as goal

abbrev pub invariant-loop-i : goal.invariant-loop-i
invariant-loop-i l = (k : ℕ) → k < l.i → get_or l.byte-items k 0 ≡ bit (defect_of (get_or l.nodes (l.at + k) 0))
