-- `round_step::fall_marks` meets its contract. Assumes nothing.
use Rattle.std.proofs.Common.{◌+◌, ◌-◌, ap, ◌∙◌, get_or}
use Rattle.flat.specs.Stored.{stored}
use Rattle.flat.specs.declared.Sizes.{Sizes}
use Rattle.sinking.specs.Sunk.{lowered_by}
use Rattle.sinking.specs.declared.Thresholds.{Thresholds}
use Rattle.round_step.proofs.Parts.{falls-marks}
use Rattle.round_step.proofs.fall_marks.Goals as goal

pub returns : goal.returns
returns c =
    let l = c.args.laid.now in
    let z = l.layout.sizes in
    falls-marks l.shape.height l.shape.distance l.range z.nodes z.sheet (ap (λ (z : Sizes). z.nodes) l.sizes) (ap (λ (z : Sizes). z.sheet) l.sizes) l.layout.table c.args.old.now c.args.marks.now c.sink_marks.new.marks c.fresh_marks.new.marks
    c.told-marks
    (c.sink_marks.ensures ∙ ap (λ (t : Thresholds). stored (512 + z.sheet) (λ i. lowered_by t (get_or c.args.old.now (512 + i) 0)) (z.nodes - z.sheet) c.args.marks.now) c.thresholds_of.ensures)
    c.fresh_marks.ensures
