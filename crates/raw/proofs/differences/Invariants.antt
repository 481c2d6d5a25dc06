-- `raw::differences` meets its contract: the places passed are by the rule. Assumes nothing.
use Prim.Native.Nat.{ℕ}
use mathlib.Core.Path.{◌≡◌}
use mathlib.Core.Bool.{Bool}
use mathlib.Core.List.{List}
use Rattle.window.specs.Lists.{over, bit}
use Rattle.window.specs.Measured as rules
use Rattle.raw.proofs.differences.Given as goal

abbrev pub rule : List Bool → List ℕ → ℕ → ℕ
rule sheet bytes i = bit (rules.differs sheet bytes i)

abbrev pub invariant-loop-i : goal.invariant-loop-i
invariant-loop-i l = l.defects ≡ over l.i (rule l.sheet l.bytes) l.initial.defects
