-- `list::take_list` meets its contract: the entries that are left, stored over those so far, give the whole list. Assumes nothing.
use Rattle.std.proofs.Common.{◌≡◌, ◌≤◌, ◌+◌, ℕ, length}
use Rattle.list.specs.Sheet.{entries_at, list_at}
use Rattle.list.proofs.take_list.Given as goal

abbrev pub invariant-loop : goal.invariant-loop
invariant-loop l =
    ((left : ℕ) → left + l.counter ≡ l.ones → entries_at l.src left l.from l.next l.out ≡ list_at l.src (length l.initial.out) l.at)
    × (l.from ≤ length l.initial.out)
