-- `flooding::scan` meets its contract. Assumes nothing.
use Rattle.std.specs.Prelude.{◌≡◌, ◌-◌, get_or}
use Rattle.flat.specs.Codes.{growth_of}
use Rattle.flat.specs.Rule.{scanned}
use Rattle.flat.specs.Structs.{plan_in}
use Rattle.flooding.proofs.scan.Given as goal

abbrev pub invariant-loop-k : goal.invariant-loop-k
invariant-loop-k l =
    scanned (plan_in l.layout) (λ y. get_or l.marks y 0) (λ e. growth_of (get_or l.edges e 0)) l.x l.unrooted l.k (l.k-end - l.k) l.lowest.mark l.lowest.pointer
    ≡ scanned (plan_in l.layout) (λ y. get_or l.marks y 0) (λ e. growth_of (get_or l.edges e 0)) l.x l.unrooted 0 l.k-end l.fn.first.mark l.fn.first.pointer
