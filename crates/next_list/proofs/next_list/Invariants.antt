use Rattle.std.proofs.Common.{◌≡◌, get_or}
use Rattle.flat.specs.Codes.{growth_of}
use Rattle.flat.specs.Structs.{plan_in}
use Rattle.flat.specs.Step.{list_at}
use Rattle.node_step.specs.Words.{stir_in}
use Rattle.next_list.specs.Next.{Next}
use Rattle.next_list.proofs.next_list.Given as goal

abbrev pub invariant-loop-i : goal.invariant-loop-i
invariant-loop-i l = record {
  next : Next (plan_in l.layout) (λ e. growth_of (get_or l.edges e 0)) l.layout.sizes.nodes (list_at l.initial.work.lists l.from) (λ j. stir_in (get_or l.initial.work.words j 0)) l.i l.to l.q l.initial.work.lists l.work.lists l.work.queued;
  words : l.work.words ≡ l.initial.work.words;
}
