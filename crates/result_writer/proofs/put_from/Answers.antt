-- `result_writer::put_from` meets its contract: the tail of the buffer takes the record, or has no room for it. Assumes nothing.
use Rattle.std.proofs.Common.{rules, ◌≡◌, sym, ◌∙◌, [], arith, Err}
use Rattle.refusal.specs.Tests.{pass-none}
use Rattle.refusal.specs.Tails.{put_none, put_some, wrote_none, wrote-inside, wrote-some}
use Rattle.refusal.specs.declared.Refusal.TheVariants.{Room}
use Rattle.record.specs.Records.{result}
use Rattle.record.specs.Calls.{as_result}
use Rattle.result_writer.proofs.put_from.Goals as goal

pub returns-in_err-count : goal.returns-in_err-count
returns-in_err-count c =
    let a = c.args in
    let p = c.put_result in
    let e : c.from_residual.result ≡ Err Room = search rules in
    rw e (wrote_none [] a.out.now a.at c.requires.at_in_bounds (result (as_result a.edges.entries.now a.escapes.entries.now a.steps)) p.result p.new.out p.ensures pass-none
    (put_none p.result _ _ (sym c.ok_or.ensures.value ∙ c.in_err-count.was)))

pub overflow_add-result : goal.overflow_add-result
overflow_add-result c =
    let a = c.args in
    let p = c.put_result in
    let h =
    wrote-inside [] a.out.now a.at c.requires.at_in_bounds (result (as_result a.edges.entries.now a.escapes.entries.now a.steps)) p.result p.new.out p.ensures pass-none c.in_ok-count.count
    (put_some p.result _ _ (sym c.ok_or.ensures.value ∙ c.in_ok-count.was)) in
    omega (arith, h, c.well_formed)

pub returns : goal.returns
returns c =
    let a = c.args in
    let p = c.put_result in
    wrote-some [] a.out.now a.at c.requires.at_in_bounds (result (as_result a.edges.entries.now a.escapes.entries.now a.steps)) p.result p.new.out p.ensures pass-none c.in_ok-count.count
    (put_some p.result _ _ (sym c.ok_or.ensures.value ∙ c.in_ok-count.was))
