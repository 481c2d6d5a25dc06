-- `syncing::arrives` meets its contract. Assumes nothing.
use Rattle.std.specs.Prelude.{◌≡◌, false, ◌-◌, get_or}
use Rattle.flat.specs.Codes.{defect_of, pointer_of, growth_of}
use Rattle.flat.specs.Rule.{arrived}
use Rattle.flat.specs.Structs.{plan_in}
use Rattle.syncing.proofs.arrives.Given as goal

abbrev pub invariant-loop-k : goal.invariant-loop-k
invariant-loop-k l =
    arrived (plan_in l.layout) (λ y. defect_of (get_or l.nodes y 0)) (λ y. pointer_of (get_or l.nodes y 0)) (λ e. growth_of (get_or l.edges e 0)) l.x l.k (l.k-end - l.k) l.odd
    ≡ arrived (plan_in l.layout) (λ y. defect_of (get_or l.nodes y 0)) (λ y. pointer_of (get_or l.nodes y 0)) (λ e. growth_of (get_or l.edges e 0)) l.x 0 l.k-end false
