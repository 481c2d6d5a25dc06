-- `fits::slot_fits` meets its contract. Assumes nothing.
use Rattle.std.proofs.Common.{arith}
use Rattle.std.proofs.lemmas.Grind.{common_steps}
use Rattle.window.specs.LawsReach.{reach-there}
use Rattle.fits.proofs.slot_fits.Goals as goal

pub returns-else-halves-correction : goal.returns-else-halves-correction
returns-else-halves-correction c = rw reach-there (grind (arith, common_steps))
