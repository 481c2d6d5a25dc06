-- `record::write_header` meets its contract: the tail of the buffer takes the header, or has no room for it. Assumes nothing.
use Rattle.std.proofs.Common.{rules, ◌≡◌, sym, ◌∙◌, [], arith, Err}
use Rattle.refusal.specs.Tests.{pass-none}
use Rattle.refusal.specs.Tails.{put_none, put_some}
use Rattle.refusal.specs.declared.Refusal.TheVariants.{Room}
use Rattle.record.specs.Records.{header}
use Rattle.record.proofs.Places.{writer-full, writer-inside, writer-done}
use Rattle.record.proofs.write_header.Goals as goal

pub returns-in_err-count : goal.returns-in_err-count
returns-in_err-count c =
    let a = c.args in
    let t = c.test_place in
    let p = c.put_header in
    let e : c.from_residual-in_err-count.result ≡ Err Room = search rules in
    rw e (writer-full a.shape a.out.now a.at t.result t.ensures [] (header a.shape) c.in_ok-test_place.was pass-none p.result p.new.out p.ensures
    (put_none p.result _ _ (sym c.ok_or.ensures.value ∙ c.in_err-count.was)))

pub overflow_add-result : goal.overflow_add-result
overflow_add-result c =
    let a = c.args in
    let t = c.test_place in
    let p = c.put_header in
    let h =
    writer-inside a.shape a.out.now a.at t.result t.ensures [] (header a.shape) c.in_ok-test_place.was pass-none p.result p.new.out p.ensures c.in_ok-count.count
    (put_some p.result _ _ (sym c.ok_or.ensures.value ∙ c.in_ok-count.was)) in
    omega (arith, h, c.well_formed)

pub returns : goal.returns
returns c =
    let a = c.args in
    let t = c.test_place in
    let p = c.put_header in
    writer-done a.shape a.out.now a.at t.result t.ensures [] (header a.shape) c.in_ok-test_place.was pass-none p.result p.new.out p.ensures c.in_ok-count.count
    (put_some p.result _ _ (sym c.ok_or.ensures.value ∙ c.in_ok-count.was))
