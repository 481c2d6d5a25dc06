use Rattle.std.proofs.Common.{◌≡◌, ◌+◌, eqb, get_or, min}
use Rattle.flat.specs.Stored.{stored}
use Rattle.growing.specs.Grown.{cut_node, cut_mark}
use Rattle.growing.proofs.cut.Given as goal

abbrev pub invariant-loop-i : goal.invariant-loop-i
invariant-loop-i l = record {
  nodes : l.nodes ≡ stored l.bottom (λ j. cut_node (λ p. eqb (get_or l.table (128 + p) 0) 1) (get_or l.initial.nodes (l.bottom + j) 0)) (min l.i l.z.sheet) l.initial.nodes;
  marks : l.marks ≡ stored l.bottom (λ j. cut_mark (λ p. eqb (get_or l.table (128 + p) 0) 1) (get_or l.initial.nodes (l.bottom + j) 0) (get_or l.initial.marks (l.bottom + j) 0)) (min l.i l.z.sheet) l.initial.marks;
}
