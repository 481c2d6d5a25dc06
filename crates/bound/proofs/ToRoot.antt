-- FROM A NODE TO ITS ROOT, at rest after every list of calls on a fresh window: the pointers are fewer than N, and they end at the root of
-- its cluster, whose number the mark is. Assumes nothing.
use Rattle.std.specs.Prelude.{ℕ, zero, suc, ◌-◌, ◌≤◌, ◌<◌, ◌≡◌, true}
use Rattle.std.proofs.Common.{arith, subst}
use Rattle.shape.proofs.Ranges.{halves}
use Rattle.shape.specs.Sizes.{shape_by}
use Rattle.shape.specs.declared.Shape.{Shape}
use Rattle.steps.specs.Steps.{Table}
use Rattle.steps.specs.Suited.{Suited}
use Rattle.steps.specs.Models.{of_model}
use Rattle.steps.proofs.Models.{suited-model}
use Rattle.window.specs.Window.{is_rest, size}
use Rattle.window.specs.Fresh.{fresh_window}
use Rattle.window.proofs.LawsFresh.{started}
use Rattle.window.specs.declared.Window.{Window}
use Rattle.law.specs.Law.{play, start}
use Rattle.law_holds.specs.Graph.{Chain, here, via, Calm, graph, view}
use Rattle.law_holds.specs.GraphLaws.{laws}
use Rattle.law_holds.specs.Rested.{joined}
use Rattle.law_holds.specs.Clusters.{calm}
use Rattle.bound.specs.Depth.{rooted-calm, root_within, within-zero, within-along, pointed-lt, depth_below}
use Rattle.bound.specs.Reachable.{Reachable, reachable-fresh, reachable-calls}
use Rattle.bound.specs.ToRoot.{PointersTo, RootsReached, ToRoot, none, one_more}

-- THE PROOF

module _ (T : Table) (S : Suited T) (sh : Shape) where
  module _ (w : Window) (r : Reachable T sh w) (c : Calm (graph T w) (view w)) where
    -- a chain that is no longer than j pointers
    followed : (j : ℕ) {v u : ℕ} → Chain (graph T w) (view w) v u → v < size w → root_within (graph T w) (view w) j v ≡ true → (n : ℕ) × (n ≤ j) × PointersTo T w v n u
    followed j (here e) l d = (0, omega arith, none e)
    followed zero (via {v = v} p x) l d = absurd (p (within-zero (graph T w) (view w) v d))
    followed (suc j) (via {v = v} p x) l d =
        let i = pointed-lt (graph T w) (view w) (laws T w S r.kept) (rooted-calm (graph T w) (view w) c) v l p in
        let y = followed j x i (within-along (graph T w) (view w) j v p d) in
        (suc y.0, omega (arith, y.1), one_more p (halves _ _ ((c v l).opn p)).0 y.2)

    to-root : (g : ℕ) → g < size w → ToRoot T w g
    to-root g l =
        let x = followed (size w - 1) (c g l).chain l (depth_below (graph T w) (view w) (laws T w S r.kept) (rooted-calm (graph T w) (view w) c) g l) in
        record { root = (c g l).root; pointers = x.0; follows = x.2; fewer = omega (arith, x.1); mark = (c g l).mark; same = λ k. k.only (c g l).root (joined T w (c g l).joined) (c g l).centre }

  at_rest : (w : Window) → Reachable T sh w → is_rest w.stage ≡ true → (g : ℕ) → g < size w → ToRoot T w g
  at_rest w r st = to-root w r (calm T w w.stage st r.clusters)

pub roots-reached : (T : Table) → Suited T → RootsReached T
roots-reached T S h d m largest_height largest_distance w n e calls =
    let x = started T h d m largest_height largest_distance w n e in
    let sh : Shape = shape_by h d m in
    let f = reachable-fresh T S sh x.range in
    subst (λ (u : Window). is_rest (play T (start u) calls).window.stage ≡ true → (g : ℕ) → g < size (play T (start u) calls).window → ToRoot T (play T (start u) calls).window g)
    x.value (at_rest T S sh (play T (start (fresh_window T sh)) calls).window (reachable-calls T S sh (fresh_window T sh) f calls))

pub roots-reached-model : (m : ℕ) → RootsReached (of_model m)
roots-reached-model m = roots-reached (of_model m) (suited-model m)
