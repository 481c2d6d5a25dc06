-- `leave::bits_on` meets its contract. Assumes nothing.
use Rattle.std.proofs.Common.{arith, ap, sym, ◌∙◌, ◌+◌}
use Rattle.flat.specs.Codes.{defect_of}
use Rattle.flat.specs.Together.{bits-most}
use Rattle.leave.specs.LawsLeaving.{quiet-most}
use Rattle.leave.proofs.bits_on.Goals as goal

pub returns-clause-most : goal.returns-clause-most
returns-clause-most c = λ i h. let v = bits-most c.args.entries.now c.args.at (c.args.at + 256) (omega arith) i (omega arith) in omega (arith, v, c.bits_of.ensures)

pub returns-clause-defects : goal.returns-clause-defects
returns-clause-defects c = λ e i h. quiet-most c.args.entries.now c.args.at (c.args.at + 256) (omega arith) (ap defect_of (sym c.bits_of.ensures) ∙ e) i (omega arith)
