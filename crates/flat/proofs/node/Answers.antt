use native.Mathlib.Omega.{arith}
use Rattle.window.specs.LawsLists.{bit-most}
use Rattle.flat.proofs.node.Goals as goal

pub overflow_mul-result : goal.overflow_mul-result
overflow_mul-result c = omega (arith, bit-most c.args.defect)

pub overflow_add-result : goal.overflow_add-result
overflow_add-result c = omega (arith, bit-most c.args.active, bit-most c.args.defect)

pub overflow_mul-result-2 : goal.overflow_mul-result-2
overflow_mul-result-2 c = omega (arith, bit-most c.args.unrooted)

pub overflow_add-result-2 : goal.overflow_add-result-2
overflow_add-result-2 c = omega (arith, bit-most c.args.active, bit-most c.args.defect, bit-most c.args.unrooted)

pub overflow_add-result-3 : goal.overflow_add-result-3
overflow_add-result-3 c = omega (arith, bit-most c.args.active, bit-most c.args.defect, bit-most c.args.unrooted)
