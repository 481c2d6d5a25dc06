-- `sinking::sink_nodes` meets its contract. Assumes nothing.
use Rattle.sinking.specs.Sunk.{settled}
use Rattle.sinking.proofs.sink_nodes.Goals as goal

pub returns : goal.returns
returns c = c.sink.ensures settled (λ v r e. e) 0
