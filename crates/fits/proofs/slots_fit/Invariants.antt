-- `fits::slots_fit` meets its contract. Assumes nothing.
use Rattle.std.proofs.Common.{◌≡◌, true}
use Rattle.steps.specs.Models.{of_model}
use Rattle.window.specs.Lists.{every}
use Rattle.window.specs.Formed.{slot_by}
use Rattle.fits.proofs.slots_fit.Given as goal

-- the slots of the first kinds have passed
abbrev pub invariant-loop-kind : goal.invariant-loop-kind
invariant-loop-kind l =
    every l.kind (slot_by (of_model l.shape.model) l.shape.height l.shape.distance l.sheets l.n l.place l.g l.growth l.correction) ≡ true
