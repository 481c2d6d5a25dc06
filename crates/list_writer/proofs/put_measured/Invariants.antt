-- `list_writer::put_measured` meets its contract: the count and the skips so far stand in the buffer, and the skips to come are left. Assumes nothing.
use Rattle.std.proofs.Common.{◌≡◌, ◌≤◌, ◌+◌, ℕ, List, length, drop}
use Rattle.refusal.specs.Parts.{Parts}
use Rattle.list.specs.Sheet.{ones, skips, listed}
use Rattle.list_writer.proofs.put_measured.Given as goal

abbrev pub Writing : List ℕ → List ℕ → List ℕ → ℕ → ℕ → ℕ → Type 0
Writing entries old out i put from =
    Parts (listed entries) old out i (skips 0 (drop from entries)) × (put + ones (drop from entries) ≡ ones entries) × (from ≤ length entries)

abbrev pub invariant-loop : goal.invariant-loop
invariant-loop l = Writing l.entries l.fn.out l.out l.i l.counter l.from
