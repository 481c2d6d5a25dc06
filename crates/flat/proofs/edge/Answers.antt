use native.Mathlib.Omega.{arith}
use Rattle.window.specs.LawsLists.{bit-most}
use Rattle.flat.proofs.edge.Goals as goal

pub overflow_mul-result : goal.overflow_mul-result
overflow_mul-result c = omega (arith, bit-most c.args.correction)

pub overflow_add-result : goal.overflow_add-result
overflow_add-result c = omega (arith, bit-most c.args.correction)
