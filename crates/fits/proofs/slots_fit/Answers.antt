-- `fits::slots_fit` meets its contract. Assumes nothing.
use Rattle.std.proofs.Common.{sym, ◌∙◌, arith}
use Rattle.window.specs.LawsLists.{every-none, every_more, every-fails}
use Rattle.fits.proofs.slots_fit.Goals as goal

pub loop-kind-init : goal.loop-kind-init
loop-kind-init c = every-none _

pub returns-then-not-slot_fits : goal.returns-then-not-slot_fits
returns-then-not-slot_fits c = sym (every-fails _ _ _ (omega arith) (sym c.slot_fits.ensures ∙ c.if-not-slot_fits.true))

pub loop-kind-preserved : goal.loop-kind-preserved
loop-kind-preserved c = every_more _ _ c.loop-kind.invariant (sym c.slot_fits.ensures ∙ c.if-not-slot_fits.false)
