-- `number::read_number` meets its contract: one group alone is the number. Assumes nothing.
use mathlib.Core.Path.{sym}
use Rattle.number.specs.Laws.{number-one}
use Rattle.number.proofs.read_number.Goals as goal

pub returns-then-only-lt128 : goal.returns-then-only-lt128
returns-then-only-lt128 c =
    let a = c.args in
    sym (number-one a.src.now a.at c.if-at-src.true c.if-only-lt128.true)
