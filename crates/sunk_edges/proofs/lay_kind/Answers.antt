-- `sunk_edges::lay_kind` meets its contract: by the three ways through it. Assumes nothing.
use Rattle.std.proofs.Common.{arith, ◌+◌, ◌-◌, ◌*◌}
use borrow.Rule.Slice.PartMut.{put_mid}
use Rattle.flat.specs.LawsStored.{stored-fill}
use Rattle.sunk_edges.specs.LawsEdges.{lays-second, lays-first}
use Rattle.sunk_edges.proofs.lay_kind.Goals as goal

pub returns-then-second : goal.returns-then-second
returns-then-second c =
    let s = c.args in
    let t = s.layout.now in
    let at = s.kind * 4608 + 512 in
    lays-second t.table s.second t.sizes.sheet s.kind s.edges.now (put_mid at (at + t.sizes.sheet - at) s.edges.now c.fill.new.self) c.lay_edges-then-second.new.edges c.if-layout-kind-ne1.false
    (stored-fill at t.sizes.sheet 3 s.edges.now c.fill.new.self (omega (arith, t.safe.sheet)) (c.fill.ensures.after (λ y h. h))) c.if-second.true c.lay_edges-then-second.ensures

pub returns-else-second : goal.returns-else-second
returns-else-second c =
    let s = c.args in
    let t = s.layout.now in
    let at = s.kind * 4608 + 512 in
    lays-first t.table s.second t.sizes.sheet s.kind s.edges.now (put_mid at (at + t.sizes.sheet - at) s.edges.now c.fill.new.self) s.edges.now c.if-layout-kind-ne1.false
    (stored-fill at t.sizes.sheet 3 s.edges.now c.fill.new.self (omega (arith, t.safe.sheet)) (c.fill.ensures.after (λ y h. h))) c.if-second.false
