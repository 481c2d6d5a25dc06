-- `leave::commit` meets its contract: the bytes passed are by the rule. Assumes nothing.
use Rattle.std.proofs.Common.{◌≡◌, ℕ, get_or, List}
use Rattle.window.specs.Lists.{over, bit}
use Rattle.flat.specs.Codes.{correction_of}
use Rattle.flat.specs.Plan.{place_in}
use Rattle.leave.proofs.commit.Given as goal

-- the rule, by an edge's number
abbrev pub rule : List ℕ → List ℕ → ℕ → ℕ
rule table edges i = bit (correction_of (get_or edges (place_in table i) 0))

abbrev pub invariant-loop-i : goal.invariant-loop-i
invariant-loop-i l = l.out ≡ over l.i (rule l.table l.edges) l.initial.out
