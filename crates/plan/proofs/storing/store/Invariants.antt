-- `plan::store` meets its contract. Assumes nothing.
use Rattle.std.proofs.Common.{◌≡◌, ℕ, ◌<◌}
use Rattle.flat.specs.Stored.{stored}
use Rattle.plan.proofs.storing.store.Given as goal

abbrev pub invariant-loop-i : goal.invariant-loop-i
invariant-loop-i g l =
    (f : ℕ → g.row.T.Denot) → ((i : ℕ) (v : g.row.T.Denot) → i < l.n → goal.F-post g l.entry i v → v ≡ f i) → l.array ≡ stored l.x f l.i l.initial.array
