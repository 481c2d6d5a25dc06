-- `number::read_groups` meets its contract: what is left to read, from the group that comes next, gives the whole number.
-- Assumes nothing.
use mathlib.Core.Path.{◌≡◌}
use mathlib.Core.List.{List}
use Prim.Native.Nat.{ℕ, ◌≤◌, ◌<◌, ◌+◌, ◌-◌}
use lib.ListN.{length}
use Rattle.number.specs.Number.{group_at, number_at, most}
use Rattle.number.specs.Laws.{weighs}
use Rattle.number.proofs.read_groups.Given as goal

-- where the reading stands after k groups: what is left gives the whole, and the sum is below what a one counts next
abbrev pub Reading : List ℕ → ℕ → ℕ → ℕ → ℕ → Type 0
Reading src at k weight sum =
    (group_at src at (most - k) weight sum (at + k) ≡ number_at src at) × (at + k ≤ length src) × (weight ≡ weighs (most - k)) × (sum < weight)

abbrev pub invariant-loop-k : goal.invariant-loop-k
invariant-loop-k l = Reading l.src l.at l.k l.weight l.sum
