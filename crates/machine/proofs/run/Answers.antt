-- `machine::run` meets its contract. Assumes nothing.
use mathlib.Core.Path.{refl}
use Prim.Native.Nat.{ℕ}
use lib.ListN.{length-replicate}
use Rattle.flat.specs.Structs.{state_in}
use Rattle.plan.specs.Laid.{sizes-for, filled-for}
use Rattle.unpack.specs.GivenWindow.{formed-shape, kept_by}
use Rattle.machine.proofs.Packed.{none-queued, standing}
use Rattle.machine.proofs.Begun.{Begun, begun, some-shown, run-packed}
use Rattle.machine.proofs.run.Goals as goal

pub lay_out-laid-requires : goal.lay_out-laid-requires
lay_out-laid-requires c = (formed-shape c.args.w c.requires.w_value).sizes

pub grow_due-opened-requires-clause-lists_len : goal.grow_due-opened-requires-clause-lists_len
grow_due-opened-requires-clause-lists_len c = (rw c.empty-work.ensures.lists (length-replicate {A = ℕ} 13824 0), rw c.empty-work.ensures.queued (none-queued 4608 refl))

pub grow_due-opened-requires-clause-standing : goal.grow_due-opened-requires-clause-standing
grow_due-opened-requires-clause-standing c =
    let w = c.args.w in
    let laid = c.lay_out-laid.result in
    let same = c.lay_out-laid.ensures in
    let kept = (kept_by w c.requires.w_value c.well_formed.0.1.1.1.1.1.0.1.0.1 c.well_formed.0.1.1.1.1.1.1.0.1.0.1 c.well_formed.0.1.1.1.1.1.1.1.0.1.0.1 c.well_formed.0.1.1.1.1.1.1.1.1.0.1.0.1) in
    standing w laid.layout.sizes (sizes-for laid w.shape same) laid.layout.table (filled-for laid w.shape same) kept _ _ _ c.unpack-arrays.ensures

pub run-reached-requires-clause-shown : goal.run-reached-requires-clause-shown
run-reached-requires-clause-shown c =
    let w = c.args.w in
    let laid = c.lay_out-laid.result in
    let same = c.lay_out-laid.ensures in
    let sizes = sizes-for laid w.shape same in
    let filled = filled-for laid w.shape same in
    let kept = (kept_by w c.requires.w_value c.well_formed.0.1.1.1.1.1.0.1.0.1 c.well_formed.0.1.1.1.1.1.1.0.1.0.1 c.well_formed.0.1.1.1.1.1.1.1.0.1.0.1 c.well_formed.0.1.1.1.1.1.1.1.1.0.1.0.1) in
    let begins : Begun w c.rides-rides.result (state_in c.grow_due-opened.new.arrays) = begun w laid.layout.sizes sizes laid.layout.table filled kept _ _ _ c.unpack-arrays.ensures c.rides-rides.result _ _ _ _ c.is_due-due.result c.is_due-due.ensures c.requires.stage_value c.rides-rides.ensures c.grow_due-opened.ensures in
    some-shown w laid.layout.sizes sizes laid.layout.table filled kept c.rides-rides.result _ begins _ _ _ _ c.all_nodes-count.result c.all_nodes-count.ensures

pub returns : goal.returns
returns c =
    let w = c.args.w in
    let laid = c.lay_out-laid.result in
    let same = c.lay_out-laid.ensures in
    let sizes = sizes-for laid w.shape same in
    let filled = filled-for laid w.shape same in
    let kept = (kept_by w c.requires.w_value c.well_formed.0.1.1.1.1.1.0.1.0.1 c.well_formed.0.1.1.1.1.1.1.0.1.0.1 c.well_formed.0.1.1.1.1.1.1.1.0.1.0.1 c.well_formed.0.1.1.1.1.1.1.1.1.0.1.0.1) in
    let begins : Begun w c.rides-rides.result (state_in c.grow_due-opened.new.arrays) = begun w laid.layout.sizes sizes laid.layout.table filled kept _ _ _ c.unpack-arrays.ensures c.rides-rides.result _ _ _ _ c.is_due-due.result c.is_due-due.ensures c.requires.stage_value c.rides-rides.ensures c.grow_due-opened.ensures in
    run-packed w laid.layout.sizes sizes laid.layout.table filled kept c.rides-rides.result _ begins _ _ _ _ c.all_nodes-count.result c.all_nodes-count.ensures
    c.args.budget c.run-reached.result.rest c.run-reached.result.count _ c.run-reached.ensures.ended c.stage_after-stage.result c.stage_after-stage.ensures c.pack.result c.pack.ensures
