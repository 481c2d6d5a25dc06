-- `one_record::record_of` meets its contract. Assumes nothing.
use Rattle.std.proofs.lemmas.Bool.{not-false}
use Rattle.decoding.specs.declared.Ending.TheVariants.{Refused}
use Rattle.one_record.proofs.Kept.{ended-as}
use Rattle.one_record.proofs.Written.{put_full}
use Rattle.one_record.proofs.record_of.Goals as goal

pub returns-in_err-end : goal.returns-in_err-end
returns-in_err-end c =
    let a = c.args in
    let f = c.in_err-end.field-0.0 in
    let e = ended-as c.from_residual.result (Refused f) c.from_residual.ensures.0 c.from_residual.ensures.1 in
    rw e (put_full a.laid.now.shape c.requires.shape a.old.now.nodes a.old.now.edges a.ended.rest a.ended.count a.behind a.out.now a.to (not-false _ c.if-not-ended.false) c.requires.to_in_bounds c.write.result _ c.write.ensures f c.in_err-end.was)
