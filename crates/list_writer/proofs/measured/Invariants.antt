-- `list_writer::measured` meets its contract: what is counted and what is to come are all. Assumes nothing.
use Rattle.std.proofs.Common.{◌≡◌, ◌≤◌, ◌-◌, ◌+◌, ℕ, List, length, drop}
use Rattle.list.specs.Sheet.{ones, skips}
use Rattle.list_writer.proofs.measured.Given as goal

-- where the counting stands
abbrev pub Counting : List ℕ → ℕ → ℕ → ℕ → Type 0
Counting l set count from =
    (set + ones (drop from l) ≡ ones l) × (count + length (skips 0 (drop from l)) ≡ length (skips 0 l)) × (from ≤ length l) × (set ≤ from)

abbrev pub invariant-loop-place : goal.invariant-loop-place
invariant-loop-place l = Counting l.entries l.ones l.len l.from

abbrev pub decreases-loop-place : goal.decreases-loop-place
decreases-loop-place l = length l.entries - l.from
