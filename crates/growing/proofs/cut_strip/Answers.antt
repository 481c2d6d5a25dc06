use Rattle.std.proofs.Common.{ℕ, ◌+◌, ap}
use Rattle.flat.specs.Stored.{stored-none}
use Rattle.growing.specs.LawsCut.{cut-next, cut-past}
use Rattle.growing.proofs.cut_strip.Goals as goal
use Rattle.growing.proofs.cut_strip.Goals.{then-table-pointer-eq1, else-table-pointer-eq1}

pub loop-i-init : goal.loop-i-init
loop-i-init c = record { nodes = stored-none _ _ _; marks = stored-none _ _ _ }

pub loop-i-preserved : goal.loop-i-preserved
loop-i-preserved c =
    let s = c.args in
    let l = c.loop-i in
    let told = ap (λ (p : ℕ). 128 + p) c.pointer.ensures.0 in
    elim c.if-table-pointer-eq1.branch [
      | then-table-pointer-eq1 w ↦
          let r = cut-next s.table.now s.nodes.now s.marks.now s.at l.i (128 + c.pointer.result) l.nodes l.invariant.nodes told l.marks l.invariant.marks w.if-table-pointer-eq1.true in
          rw (w.nodes-is, w.marks-is) (record { nodes = r.0; marks = r.1 })
      | else-table-pointer-eq1 w ↦
          let r = cut-past s.table.now s.nodes.now s.marks.now s.at l.i (128 + c.pointer.result) l.nodes l.invariant.nodes told l.marks l.invariant.marks w.if-table-pointer-eq1.false in
          rw (w.nodes-is, w.marks-is) (record { nodes = r.0; marks = r.1 })
    ]
