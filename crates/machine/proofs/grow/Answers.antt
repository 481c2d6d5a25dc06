-- `machine::grow` meets its contract. Assumes nothing.
use mathlib.Core.Path.{refl, ◌∙◌}
use Rattle.plan.specs.Laid.{sizes-for, filled-for}
use Rattle.unpack.specs.GivenWindow.{formed-shape, kept_by}
use Rattle.machine.proofs.Packed.{none-queued, standing, grown-packed}
use Rattle.machine.proofs.grow.Goals as goal

pub lay_out-laid-requires : goal.lay_out-laid-requires
lay_out-laid-requires c = (formed-shape c.args.w c.requires).sizes

pub grow-requires-clause-none_queued : goal.grow-requires-clause-none_queued
grow-requires-clause-none_queued c = rw c.empty-work.ensures.queued (none-queued 4608 refl)

pub grow-requires-clause-standing : goal.grow-requires-clause-standing
grow-requires-clause-standing c =
    let w = c.args.w in
    let laid = c.lay_out-laid.result in
    let same = c.lay_out-laid.ensures in
    let kept = (kept_by w c.requires c.well_formed.0.1.1.1.1.1.0.1.0.1 c.well_formed.0.1.1.1.1.1.1.0.1.0.1 c.well_formed.0.1.1.1.1.1.1.1.0.1.0.1 c.well_formed.0.1.1.1.1.1.1.1.1.0.1.0.1) in
    standing w laid.layout.sizes (sizes-for laid w.shape same) laid.layout.table (filled-for laid w.shape same) kept _ _ _ c.unpack-arrays.ensures

pub returns : goal.returns
returns c =
    let w = c.args.w in
    let laid = c.lay_out-laid.result in
    let same = c.lay_out-laid.ensures in
    let kept = (kept_by w c.requires c.well_formed.0.1.1.1.1.1.0.1.0.1 c.well_formed.0.1.1.1.1.1.1.0.1.0.1 c.well_formed.0.1.1.1.1.1.1.1.0.1.0.1 c.well_formed.0.1.1.1.1.1.1.1.1.0.1.0.1) in
    c.pack.ensures ∙ grown-packed w laid.layout.sizes (sizes-for laid w.shape same) laid.layout.table (filled-for laid w.shape same) kept _ _ _ c.unpack-arrays.ensures _ c.grow.ensures.grows
