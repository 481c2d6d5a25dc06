-- `rounds_on::rounds_on` meets its contract: before each turn of the loop the first set holds the window. Assumes nothing.
use Prim.Native.Nat.{◌-◌}
use lib.ListN.{length}
use Rattle.flat.specs.Structs.{state_in}
use Rattle.rounds_on.specs.Rounds.{Between}
use Rattle.rounds_on.proofs.rounds_on.Given as goal

abbrev pub invariant-records : goal.invariant-records
invariant-records l =
    Between l.laid.shape l.laid.layout.sizes l.laid.layout.table l.initial.here.next (state_in l.initial.first) l.initial.here.rides l.initial.here.quiet l.src l.at l.initial.out l.to l.i l.out l.j l.here.next l.here.rides l.here.quiet l.first l.other l.work

abbrev pub decreases-records : goal.decreases-records
decreases-records l = length l.src - l.i
