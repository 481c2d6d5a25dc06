-- `list_writer::write_list` meets its contract: the tail of the buffer takes the list, or has no room for it. Assumes nothing.
use Rattle.std.proofs.Common.{rules, ◌≡◌, sym, ◌∙◌, Bool, true, List, [], ◌∷◌, ℕ, ◌≤◌, length, leb, le-leb, arith, Err}
use Rattle.refusal.specs.Tests.{Passes, pass-none, pass-one}
use Rattle.refusal.specs.declared.Refusal.TheVariants.{Room}
use Rattle.refusal.specs.Tails.{put_none, put_some, wrote_none, wrote-inside, wrote-some}
use Rattle.number.specs.Number.{in_slice}
use Rattle.list.specs.Sheet.{listed, are_bits}
use Rattle.list_writer.proofs.write_list.Goals as goal

abbrev tests : List ℕ → List ℕ → ℕ → List (Bool × ℕ)
tests entries old at = in_slice old at ∷ (are_bits entries, 4) ∷ []

passes : (entries old : List ℕ) (at : ℕ) → at ≤ length old → are_bits entries ≡ true → Passes (tests entries old at)
passes entries old at h e = pass-one (leb at (length old)) 10 ((are_bits entries, 4) ∷ []) (le-leb at (length old) h) (pass-one (are_bits entries) 4 [] e pass-none)

pub returns-in_err-count : goal.returns-in_err-count
returns-in_err-count c =
    let a = c.args in
    let p = c.put_list in
    let i = c.if-out-at.false in
    let t = passes a.entries.now a.out.now a.at i (sym c.are_bits.ensures ∙ c.if-not-are_bits.false) in
    let e : c.from_residual.result ≡ Err Room = search rules in
    rw e (wrote_none (tests a.entries.now a.out.now a.at) a.out.now a.at i (listed a.entries.now) p.result p.new.out p.ensures t
    (put_none p.result _ _ (sym c.ok_or.ensures.value ∙ c.in_err-count.was)))

pub overflow_add-result : goal.overflow_add-result
overflow_add-result c =
    let a = c.args in
    let p = c.put_list in
    let i = c.if-out-at.false in
    let t = passes a.entries.now a.out.now a.at i (sym c.are_bits.ensures ∙ c.if-not-are_bits.false) in
    let r =
    wrote-inside (tests a.entries.now a.out.now a.at) a.out.now a.at i (listed a.entries.now) p.result p.new.out p.ensures t c.in_ok-count.count
    (put_some p.result _ _ (sym c.ok_or.ensures.value ∙ c.in_ok-count.was)) in
    omega (arith, r, c.well_formed)

pub returns : goal.returns
returns c =
    let a = c.args in
    let p = c.put_list in
    let i = c.if-out-at.false in
    let t = passes a.entries.now a.out.now a.at i (sym c.are_bits.ensures ∙ c.if-not-are_bits.false) in
    wrote-some (tests a.entries.now a.out.now a.at) a.out.now a.at i (listed a.entries.now) p.result p.new.out p.ensures t c.in_ok-count.count
    (put_some p.result _ _ (sym c.ok_or.ensures.value ∙ c.in_ok-count.was))
