-- `list_writer::next_set` meets its contract: there is a gap up to the entry that is looked at. Assumes nothing.
use Prim.Native.Nat.{◌-◌}
use lib.ListN.{length}
use Rattle.list_writer.specs.Gaps.{Gap}
use Rattle.list_writer.proofs.next_set.Given as goal

abbrev pub invariant-loop-j : goal.invariant-loop-j
invariant-loop-j l = Gap l.entries l.from l.j

abbrev pub decreases-loop-j : goal.decreases-loop-j
decreases-loop-j l = length l.entries - l.j
