-- `sinking::sink_marks` meets its contract. Assumes nothing.
use Rattle.std.proofs.Common.{rules}
use Rattle.sinking.specs.Sunk.{lowered_by}
use Rattle.sinking.proofs.sink_marks.Goals as goal

pub returns : goal.returns
returns c = c.sink.ensures (lowered_by c.args.t) (λ v r e. search rules) 0
