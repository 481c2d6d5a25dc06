-- `top_sheet::receive` meets its contract: the bytes passed are put. Assumes nothing.
use Rattle.std.proofs.Common.{◌≡◌, ◌*◌}
use Rattle.top_sheet.specs.Received.{put_from}
use Rattle.top_sheet.proofs.receive.Given as goal

abbrev pub invariant-loop-k : goal.invariant-loop-k
invariant-loop-k l = l.nodes ≡ put_from l.d l.bytes 0 (l.k * 16) l.initial.nodes
