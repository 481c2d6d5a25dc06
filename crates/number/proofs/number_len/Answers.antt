-- `number::number_len` meets its contract: the groups passed and those of what is left are the number's own.
-- Assumes nothing.
use mathlib.Core.Path.{ap}
use native.Mathlib.Omega.{arith}
use lib.ListN.{length}
use Rattle.number.specs.Laws.{written_one, written-more}
use Rattle.number.proofs.number_len.Goals as goal

pub loop-rest-preserved : goal.loop-rest-preserved
loop-rest-preserved c = omega (arith, ap length (written-more c.loop-rest.rest c.loop-rest-test.true))

pub returns : goal.returns
returns c = omega (arith, ap length (written_one c.loop-rest.rest c.loop-rest-test.false))
