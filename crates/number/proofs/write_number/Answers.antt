-- `number::write_number` meets its contract: the tail of the buffer takes the number, or has no room for it. Assumes nothing.
use Rattle.std.proofs.Common.{rules, ◌≡◌, ◌∙◌, sym, ℕ, ◌≤◌, List, [], ◌∷◌, length, leb, arith, le-leb, Err}
use Rattle.refusal.specs.Tests.{Passes, pass-none, pass-one}
use Rattle.refusal.specs.declared.Refusal.TheVariants.{Room}
use Rattle.refusal.specs.Tails.{put_none, put_some, wrote_none, wrote-inside, wrote-some}
use Rattle.number.specs.Number.{written, in_slice}
use Rattle.number.proofs.write_number.Goals as goal

passes : (old : List ℕ) (at : ℕ) → at ≤ length old → Passes (in_slice old at ∷ [])
passes old at h = pass-one (leb at (length old)) 10 [] (le-leb at (length old) h) pass-none

pub returns-in_err-count : goal.returns-in_err-count
returns-in_err-count c =
    let a = c.args in
    let p = c.put_number in
    let i = c.if-out-at.false in
    let e : c.from_residual.result ≡ Err Room = search rules in
    rw e (wrote_none (in_slice a.out.now a.at ∷ []) a.out.now a.at i (written a.n) p.result p.new.out p.ensures
    (passes a.out.now a.at i)
    (put_none p.result _ _ (sym c.ok_or.ensures.value ∙ c.in_err-count.was)))

pub overflow_add-result : goal.overflow_add-result
overflow_add-result c =
    let a = c.args in
    let p = c.put_number in
    let i = c.if-out-at.false in
    let r =
    wrote-inside (in_slice a.out.now a.at ∷ []) a.out.now a.at i (written a.n) p.result p.new.out p.ensures
    (passes a.out.now a.at i) c.in_ok-count.count (put_some p.result _ _ (sym c.ok_or.ensures.value ∙ c.in_ok-count.was)) in
    omega (arith, r, c.well_formed)

pub returns : goal.returns
returns c =
    let a = c.args in
    let p = c.put_number in
    let i = c.if-out-at.false in
    wrote-some (in_slice a.out.now a.at ∷ []) a.out.now a.at i (written a.n) p.result p.new.out p.ensures
    (passes a.out.now a.at i) c.in_ok-count.count (put_some p.result _ _ (sym c.ok_or.ensures.value ∙ c.in_ok-count.was))
