-- WHAT LIES OVER AN OPEN EDGE of a shown window's node is a node. Assumes nothing.
use Rattle.std.specs.Prelude.{ℕ, ◌+◌, ◌-◌, ◌<◌, ◌≡◌, true, eqb, length}
use Rattle.std.proofs.Common.{arith, sym, ◌∙◌, ap}
use Rattle.shape.proofs.Ranges.{halves}
use Rattle.steps.specs.Steps.{Table}
use Rattle.steps.specs.Suited.{Suited}
use Rattle.window.specs.Window.{size, to}
use Rattle.window.specs.declared.Window.{Window}
use Rattle.closure.specs.Closure.{Kept}
use Rattle.closure.specs.Facts.{facts, node-within}
use Rattle.flat.specs.Entries.{State, margin, within, over_by}
use Rattle.flat.specs.Plan.{Plan}
use Rattle.queue.specs.Queue.{Inside}
use Rattle.shows.specs.Planned.{Planned}
use Rattle.shows.specs.Shows.{Shows}
use Rattle.shows.specs.Riding.{opens}
use Rattle.shows.proofs.Read.{place-node, node-within-entry, flat-entry, flat-open}

pub open-inside : (T : Table) → Suited T → (P : Plan) (w : Window) (st : State) → Kept T w → Planned T w.shape.height w.shape.distance P → Shows T w st
    → (x : ℕ) → within (size w) x ≡ true → Inside P st.growth x P.dirs (size w)
open-inside T S P w st K N H x i k m o =
    let F = facts T w K.formed in
    let q = place-node (size w) x i in
    let g = x - margin in
    let l : k < length T.steps = omega (arith, N.dirs) in
    let a : opens T w g (k + 1) ≡ true = sym (flat-open T S w F st H P N g k q.0 l) ∙ ap (λ (y : ℕ). eqb (st.growth (over_by y (P.slot k))) 2) q.1 ∙ o in
    let e = (halves (to w T (k + 1) g).there _ a).0 in
    ap (within (size w)) (ap (λ (y : ℕ). over_by y (P.off k)) (sym q.1) ∙ flat-entry T S w F st H P N g k q.0 l e)
    ∙ node-within-entry (size w) (to w T (k + 1) g).node (node-within T w F.ranged (k + 1) g e)
