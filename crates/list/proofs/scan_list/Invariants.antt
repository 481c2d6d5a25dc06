-- `list::scan_list` meets its contract: the entries that are left end as the whole list does. Assumes nothing.
use Rattle.std.proofs.Common.{◌≡◌, ◌≤◌, ◌+◌, ℕ, List, replicate}
use Rattle.refusal.specs.Answer.{Answer, without_value}
use Rattle.list.specs.Sheet.{entries_at, list_at}
use Rattle.list.proofs.scan_list.Given as goal

-- how the reading ends, from so many entries left on
abbrev pub ends : List ℕ → ℕ → ℕ → ℕ → ℕ → Answer (Unit {0})
ends src size left from next = without_value (entries_at src left from next (replicate size 0))

abbrev pub invariant-loop : goal.invariant-loop
invariant-loop l =
    ((left : ℕ) → left + l.counter ≡ l.count → ends l.src l.size left l.from l.next ≡ without_value (list_at l.src l.size l.at)) × (l.from ≤ l.size)
