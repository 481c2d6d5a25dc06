-- `raw::sheet_of` meets its contract: the bytes passed are in the sheet. Assumes nothing.
use native.Mathlib.Omega.{arith}
use Prim.Native.Nat.{ℕ}
use Rattle.window.specs.Lists.{over}
use mathlib.Core.Path.{◌≡◌, refl, sym, ◌∙◌, ap}
use mathlib.Core.Bool.{false}
use lib.ListN.{length, length-replicate}
use Rattle.shape.specs.Sizes.{max_detectors}
use Rattle.window.specs.LawsLists.{over_none, over-next}
use Rattle.window.specs.Measured.{is_set, as_sheet}
use Rattle.raw.proofs.sheet_of.Invariants.{empty}
use Rattle.raw.proofs.sheet_of.Goals as goal

pub loop-i-init : goal.loop-i-init
loop-i-init c = sym (over_none (is_set c.args.bytes.now) empty)

pub loop-i-preserved : goal.loop-i-preserved
loop-i-preserved c = over-next (is_set c.args.bytes.now) empty _ _ _ (omega (arith, length-replicate max_detectors false, c.requires)) c.loop-i.invariant refl

pub returns : goal.returns
unfolding as_sheet
returns c =
    let z : c.loop-i.i ≡ length c.args.bytes.now = omega (arith, c.loop-i-test.false, c.loop-i.auto.i-end) in
    c.loop-i.invariant ∙ ap (λ (n : ℕ). over n (is_set c.args.bytes.now) empty) z
