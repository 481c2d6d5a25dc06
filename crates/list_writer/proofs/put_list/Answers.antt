-- `list_writer::put_list` meets its contract: a list that was measured is written where it has room. Assumes nothing.
use Rattle.std.proofs.Common.{sym, arith}
use Rattle.refusal.specs.Filling.{front-full}
use Rattle.list.specs.Sheet.{listed}
use Rattle.list_writer.proofs.put_list.Goals as goal

pub returns-then-out-m : goal.returns-then-out-m
returns-then-out-m c =
    let a = c.args in
    let m = c.measured-m in
    rw (sym m.ensures) (sym (front-full a.out.now (listed m.result.entries.now) (omega (arith, m.result.measured.bytes-are, c.if-out-m.true))))
