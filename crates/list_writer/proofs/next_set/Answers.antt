-- `list_writer::next_set` meets its contract: there is a gap up to the entry that is looked at. Assumes nothing.
use Rattle.std.proofs.Common.{◌+◌, ◌≡◌, sym, length, arith}
use Rattle.list_writer.specs.Laws.{gap-join, gap-one}
use Rattle.list_writer.proofs.next_set.Goals as goal

pub loop-j-preserved-then-blank : goal.loop-j-preserved-then-blank
loop-j-preserved-then-blank c =
    let l = c.loop-j in
    let a = c.args in
    gap-join a.entries.now a.from l.j (l.j + 16) l.invariant (c.blank.ensures c.if-blank.true)

pub loop-j-preserved : goal.loop-j-preserved
loop-j-preserved c =
    let l = c.loop-j in
    let a = c.args in
    gap-join a.entries.now a.from l.j (l.j + 1) l.invariant (gap-one a.entries.now l.j c.loop-j-test.true c.if-entries-j-eq1.false)

pub returns : goal.returns
returns c =
    let e : c.loop-j.j ≡ length c.args.entries.now = omega (arith, c.loop-j.invariant.within, c.loop-j-test.false) in
    rw (sym e) c.loop-j.invariant
