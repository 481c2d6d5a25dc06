-- `top_sheet::put_part` meets its contract: the bytes passed are put. Assumes nothing.
use Rattle.std.proofs.Common.{◌≡◌, ◌-◌}
use Rattle.top_sheet.specs.Received.{put_from}
use Rattle.top_sheet.proofs.put_part.Given as goal

abbrev pub invariant-loop-i : goal.invariant-loop-i
invariant-loop-i l = l.nodes ≡ put_from l.d l.bytes l.from (l.i - l.from) l.initial.nodes
