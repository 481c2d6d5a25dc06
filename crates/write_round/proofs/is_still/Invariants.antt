-- `write_round::is_still` meets its contract. Assumes nothing.
use Rattle.std.proofs.Common.{◌≡◌}
use Rattle.std.specs.Prelude.{◌&&◌}
use Rattle.window.specs.Lists.{every}
use Rattle.write_round.specs.Left.{blank_of, quiet_of}
use Rattle.write_round.proofs.is_still.Given as goal

abbrev pub invariant-loop-kind : goal.invariant-loop-kind
invariant-loop-kind l = l.none ≡ (quiet_of l.z l.arrays.nodes && every l.kind (blank_of l.z l.arrays.edges))
