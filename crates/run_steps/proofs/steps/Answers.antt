-- `run_steps::steps` meets its contract: between two steps some window is shown whose steps left give the whole. Assumes nothing.
use Rattle.std.proofs.Common.{◌≡◌, arith, refl}
use Rattle.queue.specs.LawsTrues.{queue-most}
use Rattle.run_steps.specs.Going.{half-low, over-spent, over-rests, goes_same, now-inside, goes_on_lem}
use Rattle.run_steps.proofs.steps.Goals as goal
use Rattle.run_steps.proofs.steps.Goals.{then-rides, else-rides}

pub step-busy-requires-clause-count_bound : goal.step-busy-requires-clause-count_bound
step-busy-requires-clause-count_bound c =
    let m = c.loop-made.invariant in
    let h = half-low _ m.half in
    let q = queue-most m.queue in
    (omega arith, omega arith)

pub returns-then-not-busy : goal.returns-then-not-busy
returns-then-not-busy c = over-rests _ _ _ _ _ _ _ c.requires.shown _ _ _ _ _ _ _ _ _ c.loop-made.invariant c.loop-made-test.true _ _ _ _ _ c.step-busy.ensures c.if-not-busy.true

pub next_list-count-requires-clause-by_index : goal.next_list-count-requires-clause-by_index
next_list-count-requires-clause-by_index c =
    now-inside _ _ _ _ _ _ _ c.requires.shown _ _ _ _ _ _ _ _ _ c.loop-made.invariant c.loop-made-test.true _ _ _ _ _ c.step-busy.ensures _ refl

pub loop-made-preserved : goal.loop-made-preserved
loop-made-preserved c = elim c.if-rides.branch [
  | then-rides w ↦ rw (w.work-is, w.from-is, w.count-is, w.next_list-count.ensures.words) (goes_on_lem _ _ _ _ _ _ _ c.requires.shown _ _ _ _ _ _ _ _ _ c.loop-made.invariant c.loop-made-test.true _ _ _ _ _ c.step-busy.ensures c.if-not-busy.false w.if-rides.true _ _ _ _ refl w.next_list-count.ensures.next)
  | else-rides w ↦ rw (w.work-is, w.from-is, w.count-is) (goes_same _ _ _ _ _ _ _ c.requires.shown _ _ _ _ _ _ _ _ _ c.loop-made.invariant c.loop-made-test.true _ _ _ _ _ c.step-busy.ensures c.if-not-busy.false w.if-rides.false)
]

pub returns : goal.returns
returns c =
    let e : c.loop-made.made ≡ c.args.budget = omega arith in
    rw e at (over-spent _ _ _ _ _ _ _ c.requires.shown _ _ _ _ _ _ _ _ _ c.loop-made.invariant (omega arith))
