use Rattle.std.specs.Prelude.{ℕ, ◌+◌, ◌-◌, ◌<◌, ◌≡◌, Bool, false, eqb, leb, get_or, min}
use Rattle.std.proofs.Common.{rules, arith, sym, ◌∙◌}
use Rattle.flat.specs.Stored.{stored, stored-none}
use Rattle.queue.specs.LawsParts.{none-passes}
use Rattle.growing.specs.Grown.{cut_node, cut_mark}
use Rattle.growing.specs.LawsCut.{strips-node, strips-mark, centred-node, centred-mark}
use Rattle.growing.proofs.cut.Goals as goal
use Rattle.growing.proofs.cut.Goals.{Joined-any_of, then-any_of, else-any_of}

-- a strip of m nodes is passed
strip_passed : (c : Joined-any_of) (m : ℕ) → min 16 (c.args.z.sheet - c.loop-i.i) ≡ m
    → (c.if-any_of.nodes ≡ stored (512 + c.args.z.nodes - c.args.z.sheet) (λ j. cut_node (λ p. eqb (get_or c.args.table.now (128 + p) 0) 1) (get_or c.args.nodes.now (512 + c.args.z.nodes - c.args.z.sheet + j) 0)) (c.loop-i.i + m) c.args.nodes.now)
    × (c.if-any_of.marks ≡ stored (512 + c.args.z.nodes - c.args.z.sheet) (λ j. cut_mark (λ p. eqb (get_or c.args.table.now (128 + p) 0) 1) (get_or c.args.nodes.now (512 + c.args.z.nodes - c.args.z.sheet + j) 0) (get_or c.args.marks.now (512 + c.args.z.nodes - c.args.z.sheet + j) 0)) (c.loop-i.i + m) c.args.marks.now)
strip_passed c m p =
    let a = c.args in
    let l = c.loop-i in
    let b = 512 + a.z.nodes - a.z.sheet in
    let f : ℕ → Bool = λ k. eqb (get_or a.table.now (128 + k) 0) 1 in
    let e : min l.i a.z.sheet ≡ l.i = omega arith in
    let nodes = rw e at l.invariant.nodes in
    let marks = rw e at l.invariant.marks in
    elim c.if-any_of.branch [
      | then-any_of w ↦
          let g : w.min.result ≡ m = w.min.ensures ∙ p in
          rw (w.nodes-is, w.marks-is, ← g) (
            strips-node f a.nodes.now a.marks.now b l.i w.min.result l.nodes l.marks _ l.marks nodes w.cut_strip.ensures.nodes_after,
            strips-mark f a.nodes.now a.marks.now b l.i w.min.result l.nodes l.marks l.nodes _ nodes marks w.cut_strip.ensures.marks_after,
          )
      | else-any_of w ↦
          let rest : (j : ℕ) → j < m → leb 8 (get_or l.nodes (b + l.i + j) 0) ≡ false
          = λ j h. none-passes (leb 8) (b + l.i) (b + l.i + 16) l.nodes (omega arith) (sym (c.any_of.ensures (leb 8) (λ v b p. search rules)) ∙ w.if-any_of.false) j (omega arith) in
          rw (w.nodes-is, w.marks-is) (
            strips-node f a.nodes.now a.marks.now b l.i m l.nodes l.marks l.nodes l.marks nodes (centred-node f c.requires.table_value (b + l.i) m l.nodes l.marks rest),
            strips-mark f a.nodes.now a.marks.now b l.i m l.nodes l.marks l.nodes l.marks nodes marks (centred-mark f c.requires.table_value (b + l.i) m l.nodes l.marks rest),
          )
    ]

pub loop-i-init : goal.loop-i-init
loop-i-init c = let e : min 0 c.args.z.sheet ≡ 0 = omega arith in rw e (record { nodes = stored-none _ _ _; marks = stored-none _ _ _ })

pub loop-i-preserved : goal.loop-i-preserved
loop-i-preserved c =
    let r = strip_passed (goal.at.loop-i-preserved c).Joined-any_of 16 (omega arith) in
    let e : min (c.loop-i.i + 16) c.args.z.sheet ≡ c.loop-i.i + 16 = omega arith in
    rw e (record { nodes = r.0; marks = r.1 })

pub returns-after-any_of : goal.returns-after-any_of
returns-after-any_of c =
    let m = c.args.z.sheet - c.loop-i.i in
    let r = strip_passed (goal.at.returns-after-any_of c).Joined-any_of m (omega arith) in
    let e : c.loop-i.i + m ≡ c.args.z.sheet = omega arith in
    record { nodes_after = rw e at r.0; marks_after = rw e at r.1 }
