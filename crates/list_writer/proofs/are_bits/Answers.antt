-- `list_writer::are_bits` meets its contract. Assumes nothing.
use Rattle.std.proofs.Common.{sym}
use Rattle.list_writer.specs.Laws.{bits-told}
use Rattle.list_writer.proofs.are_bits.Goals as goal

pub returns : goal.returns
returns c = sym (bits-told c.args.entries.now c.union.result c.union.ensures)
