-- `number::put_number` meets its contract: the groups so far stand in the buffer, and those of what is left are still to come.
-- Assumes nothing.
use mathlib.Core.Path.{◌≡◌}
use lib.ListN.{drop}
use Rattle.refusal.specs.Filling.{filled}
use Rattle.number.specs.Number.{written}
use Rattle.number.proofs.put_number.Given as goal

abbrev pub invariant-loop-i : goal.invariant-loop-i
invariant-loop-i l = (l.out ≡ filled (written l.n) l.initial.out l.i) × (drop l.i (written l.n) ≡ written l.rest)
