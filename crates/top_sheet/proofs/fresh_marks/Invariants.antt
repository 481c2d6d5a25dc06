-- `top_sheet::fresh_marks` meets its contract: the marks passed are the table's numbers. Assumes nothing.
use Rattle.std.proofs.Common.{◌≡◌, ℕ, ◌+◌, ◌<◌, get_or}
use Rattle.top_sheet.proofs.fresh_marks.Given as goal

abbrev pub invariant-loop-i : goal.invariant-loop-i
invariant-loop-i l = (k : ℕ) → k < l.i → get_or l.mark-items k 0 ≡ get_or l.table (512 + k) 0
