use Rattle.std.proofs.Common.{ℕ, get_or, ◌+◌, ◌≤◌}
use Rattle.flat.specs.Codes.{defect_of}
use Rattle.flat.specs.Step.{list_at, Places}
use Rattle.queue.specs.Queue.{Queue}
use Rattle.enlist.specs.Enlisted.{Enlisted}
use Rattle.enlist.proofs.push_hot.Given as goal

abbrev pub invariant-loop-i : goal.invariant-loop-i
invariant-loop-i l = record {
  queue : Queue 0 l.q l.lists l.queued;
  enlisted : (m : ℕ) → l.at + l.n ≤ 512 + m → Places m l.count (list_at l.initial.lists 0) → Enlisted m l.count l.initial.lists (λ j. defect_of (get_or l.nodes (l.at + j) 0)) (λ j. l.at + j) l.i l.q l.lists l.queued;
}
