use Rattle.std.proofs.Common.{get_or, ◌+◌, min}
use Rattle.flat.specs.Codes.{defect_of}
use Rattle.enlist.specs.Enlisted.{Enlisted}
use Rattle.enlist.proofs.push_defects.Given as goal

abbrev pub invariant-loop-first : goal.invariant-loop-first
invariant-loop-first l = Enlisted l.z.nodes l.count l.initial.lists (λ j. defect_of (get_or l.nodes (512 + j) 0)) (λ j. 512 + j) (min l.first l.z.sheet) l.q l.lists l.queued
