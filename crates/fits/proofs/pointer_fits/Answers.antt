-- `fits::pointer_fits` meets its contract. Assumes nothing.
use Rattle.std.proofs.Common.{eq-eqb, ne_eqb}
use Rattle.window.specs.LawsReach.{reach-there}
use Rattle.window.specs.Formed.{pointer_fits}
use Rattle.fits.proofs.pointer_fits.Goals as goal

pub returns-then-pointer-eq0 : goal.returns-then-pointer-eq0
unfolding pointer_fits
returns-then-pointer-eq0 c = rw (eq-eqb _ _ c.if-pointer-eq0.true)

pub returns-else-pointer-eq0 : goal.returns-else-pointer-eq0
unfolding pointer_fits
returns-else-pointer-eq0 c = rw (ne_eqb _ _ c.if-pointer-eq0.false, reach-there) c.joined.ensures
