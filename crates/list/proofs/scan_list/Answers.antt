-- `list::scan_list` meets its contract: the entries that are left end as the whole list does. Assumes nothing.
use Rattle.std.proofs.Common.{rules, ◌≡◌, sym, ◌∙◌, ap, ℕ, suc, ◌-◌, ◌+◌, List, set, replicate, length-set, arith, Err}
use Rattle.std.proofs.lemmas.List.{length-replicate}
use Rattle.refusal.specs.Answer.{Answer, done, turned, and_then, without_value}
use Rattle.refusal.specs.Laws.{stays-turned, turned-passed}
use Rattle.refusal.specs.Done.{goes_on_lem}
use Rattle.refusal.specs.declared.Refusal.{Refusal}
use Rattle.list.specs.Sheet.{place_at}
use Rattle.list.specs.Laws.{list-sized, entries-placed, place-inside, entries_none, entries-alike, on_size, on_place}
use Rattle.list.proofs.scan_list.Invariants.{ends}
use Rattle.list.proofs.scan_list.Goals as goal

module _ (src : List ℕ) (size left from at : ℕ) where
  placed : ends src size (suc left) from at ≡ without_value (and_then (place_at src size from at) (on_place src left (replicate size 0)))
  placed =
      ap (λ (a : Answer (List ℕ)). without_value a) (entries-placed src left from at (replicate size 0))
      ∙ ap (λ (n : ℕ). without_value (and_then (place_at src n from at) (on_place src left (replicate size 0)))) (length-replicate {A = ℕ} size 0)

  step : (p next : ℕ) → place_at src size from at ≡ done p next → ends src size left (p + 1) next ≡ ends src size (suc left) from at
  step p next e =
      let z : List ℕ = replicate size 0 in
      sym (placed ∙ ap (λ (a : Answer (List ℕ)). without_value a) (goes_on_lem (on_place src left (replicate size 0)) e)
      ∙ entries-alike src left (p + 1) next (set z p 1) z (length-set z p 1))

  stop : (f : Refusal) → turned f ≡ place_at src size from at → turned f ≡ ends src size (suc left) from at
  stop f e =
      sym (placed ∙ ap (λ (a : Answer (List ℕ)). without_value a) (stays-turned f (on_place src left (replicate size 0)) (sym e)) ∙ turned-passed (List ℕ) f)

pub returns-in_err-count : goal.returns-in_err-count
returns-in_err-count c =
    let a = c.args in
    let e : c.from_residual.result ≡ Err c.in_err-count.field-0.0 = search rules in
    let f = c.in_err-count.field-0.0 in
    rw e (sym (ap (λ (a : Answer (List ℕ)). without_value a) (list-sized a.src.now a.size a.at ∙ stays-turned f (on_size a.src.now a.size) (sym c.in_err-count.ensures)) ∙ turned-passed (List ℕ) f))

pub loop-init : goal.loop-init
loop-init c =
    let a = c.args in (
      λ left e. let all : left ≡ c.in_ok-count.count = omega (arith, e) in
          rw all (sym (ap (λ (a : Answer (List ℕ)). without_value a) (list-sized a.src.now a.size a.at ∙ goes_on_lem (on_size a.src.now a.size) (sym c.in_ok-count.ensures)))),
      omega arith,
    )

pub returns-in_err-place : goal.returns-in_err-place
returns-in_err-place c =
    let a = c.args in
    let l = c.loop in
    let e : c.from_residual-in_err-place.result ≡ Err c.in_err-place.field-0.0 = search rules in
    let left = c.in_ok-count.count - l.counter - 1 in
    rw e (stop a.src.now a.size left l.from l.next c.in_err-place.field-0.0 c.in_err-place.ensures ∙ l.invariant.0 (suc left) (omega (arith, c.loop-test.true)))

pub overflow_add-from : goal.overflow_add-from
overflow_add-from c =
    let i = place-inside c.args.src.now c.args.size c.loop.from c.loop.next c.in_ok-place.place c.in_ok-place.behind (sym c.in_ok-place.ensures) in
    omega (arith, i, c.ranges.size.fits)

pub loop-preserved : goal.loop-preserved
loop-preserved c =
    let a = c.args in
    let l = c.loop in
    let i = place-inside a.src.now a.size l.from l.next c.in_ok-place.place c.in_ok-place.behind (sym c.in_ok-place.ensures) in (
      λ left e. step a.src.now a.size left l.from l.next c.in_ok-place.place c.in_ok-place.behind (sym c.in_ok-place.ensures) ∙ l.invariant.0 (suc left) (omega (arith, e)),
      omega (arith, i),
    )

pub returns : goal.returns
returns c =
    let l = c.loop in
    let a = c.args in
    sym (sym (l.invariant.0 0 (omega (arith, c.loop-test.false, l.auto))) ∙ ap (λ (x : Answer (List ℕ)). without_value x) (entries_none a.src.now l.from l.next (replicate a.size 0)))
