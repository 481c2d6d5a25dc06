-- THE CONSERVATION CLAUSE is kept by the rules. Assumes nothing.
use Rattle.steps.specs.Steps.{Table}
use Rattle.window.specs.Measured.{measuring}
use Rattle.steps.specs.Suited.{Suited}
use Rattle.closure.specs.Facts.{facts}
use Rattle.law.specs.Everywhere.{Conserved}
use Rattle.law_holds.specs.Rules.{Invariant}
use Rattle.law_holds.specs.ConservedGrow.{conserved-grow}
use Rattle.law_holds.specs.ConservedRound.{conserved-round}
use Rattle.law_holds.specs.ConservedMerging.{conserved-merging}

pub conserved : (T : Table) → Suited T → Invariant T (Conserved T)
unfolding measuring
conserved T S =
    record {
      round = λ p defects k st bits c. conserved-round T S p defects (facts T p.window k.formed) bits c;
      replace = λ p bytes c a i. c a (record { arrived = i.arrived; row = i.row; west = i.west; east = i.east });
      grow = λ p k st c. conserved-grow T p c;
      merging = λ p k st c. conserved-merging T S p (facts T p.window k.formed) st c;
    }
