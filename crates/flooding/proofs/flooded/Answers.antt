-- `flooding::flooded` meets its contract. Assumes nothing.
use native.Mathlib.Omega.{arith}
use Rattle.flooding.specs.LawsScan.{pointer-low}
use Rattle.flooding.proofs.flooded.Goals as goal

pub returns-clause-pointer_bound : goal.returns-clause-pointer_bound
returns-clause-pointer_bound c = rw c.scan.ensures (pointer-low _ _ _ _ _ _ 0 _ _ c.pointer-pointer.ensures.1 (omega (arith, c.args.layout.now.safe.dirs)))
