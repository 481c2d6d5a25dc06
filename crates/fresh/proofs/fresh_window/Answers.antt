-- `fresh::fresh_window` meets its contract. Assumes nothing.
use mathlib.Core.Path.{◌≡◌, sym, ◌∙◌, ap, subst}
use Prim.Native.Nat.{ℕ, ◌<◌}
use native.Mathlib.Omega.{arith}
use lib.ListN.{length, replicate, length-replicate}
use Rattle.shape.specs.Sizes.{nodes_of, max_nodes}
use Rattle.walk.specs.Walk.{Stands}
use Rattle.walk.specs.LawsWalk.{first-place, stands_at, stands-low, depth_low, walks-on}
use Rattle.window.specs.LawsLists.{over_none, over-next}
use Rattle.window.specs.Window.{unused}
use Rattle.window.specs.declared.Node.{Node}
use Rattle.fresh.proofs.Opened.{numbering, numbered-by, fresh-by}
use Rattle.fresh.proofs.fresh_window.Lts as lts
use Rattle.fresh.proofs.fresh_window.Tie as tie
use Rattle.fresh.proofs.fresh_window.Reads as reads
use Rattle.fresh.proofs.fresh_window.Goals as goal

-- the node of this turn
here : (c : lts.In-loop tie.the-claims reads.Pre reads.Post goal.the-invariant-loop-g goal.the-decreases-loop-g) → Stands c.args.shape.height c.args.shape.distance c.loop-g.place c.loop-g.g
here c = stands_at _ _ _ _ _ c.nodes-g-end.ensures c.loop-g-test.true c.loop-g.invariant.0

low : (c : lts.In-loop tie.the-claims reads.Pre reads.Post goal.the-invariant-loop-g goal.the-decreases-loop-g) → c.loop-g.g < max_nodes
low c = stands-low _ _ _ _ (here c)

long : (n g : ℕ) → g < n → g < length (replicate n unused)
long n g l = subst (λ (m : ℕ). g < m) (sym (length-replicate n unused)) l

pub loop-g-init : goal.loop-g-init
loop-g-init c = (first-place c.args.shape.height c.args.shape.distance, ap (λ (x : Node). replicate max_nodes x) c.alone-nodes.ensures ∙ sym (over_none (numbering c.args.shape) (replicate max_nodes unused)))

pub number-requires : goal.number-requires
number-requires c = here c

pub bounds-nodes-g : goal.bounds-nodes-g
bounds-nodes-g c = omega (arith, low c.before.before)

pub next_place-place-requires : goal.next_place-place-requires
next_place-place-requires c = omega (arith, depth_low _ _ _ _ (here c.before.before))

pub loop-g-preserved : goal.loop-g-preserved
loop-g-preserved c = let l = c.loop-g in (
  walks-on c.args.shape.height c.args.shape.distance l.place c.next_place-place.result l.g l.invariant.0 c.next_place-place.ensures,
  over-next (numbering c.args.shape) (replicate max_nodes unused) l.g l.nodes c.alone.result (long max_nodes l.g (low c.before.before.before)) l.invariant.1
      (numbered-by c.args.shape l.g c.number.result l.place c.alone.result (l.invariant.0 (here c.before.before.before).ranged.h1) c.number.ensures c.alone.ensures),
)

pub returns : goal.returns
returns c = let z : c.loop-g.g ≡ nodes_of c.args.shape.height c.args.shape.distance = omega (arith, c.loop-g-test.false, c.loop-g.auto.g-end, c.nodes-g-end.ensures) in
    fresh-by c.args.shape c.loop-g.g _ c.loop-g.nodes z c.sheets.ensures c.loop-g.invariant.1
