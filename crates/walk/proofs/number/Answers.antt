-- `walk::number` meets its contract. Assumes nothing.
use Rattle.std.proofs.Common.{arith}
use Rattle.walk.specs.LawsWalk.{number-low}
use Rattle.walk.proofs.number.Goals as goal

pub overflow_cast-result : goal.overflow_cast-result
overflow_cast-result c = omega (arith, number-low _ _ _ _ c.requires)
