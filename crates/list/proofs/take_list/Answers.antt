-- `list::take_list` meets its contract: the entries that are left, stored over those so far, give the whole list. Assumes nothing.
use Rattle.std.proofs.Common.{rules, ◌≡◌, sym, ◌∙◌, ap, ℕ, suc, ◌-◌, ◌+◌, List, length, set, arith, Err}
use Rattle.refusal.specs.Answer.{Answer, done, turned, and_then}
use Rattle.refusal.specs.Laws.{stays-turned}
use Rattle.refusal.specs.Done.{goes_on_lem}
use Rattle.refusal.specs.declared.Refusal.{Refusal}
use Rattle.list.specs.Sheet.{entries_at, list_at, place_at, read_into}
use Rattle.list.specs.Laws.{list-sized, entries-placed, place-inside, entries_none, refused-into, on_size, on_place}
use Rattle.list.proofs.take_list.Goals as goal

module _ (src : List ℕ) (size left from at : ℕ) (out : List ℕ) (long : length out ≡ size) where
  placed : entries_at src (suc left) from at out ≡ and_then (place_at src (length out) from at) (on_place src left out)
  placed = entries-placed src left from at out

  stop : (f : Refusal) → turned f ≡ place_at src (length out) from at → entries_at src (suc left) from at out ≡ turned f
  stop f e = placed ∙ stays-turned f (on_place src left out) (sym e)

  step : (p next : ℕ) → done p next ≡ place_at src (length out) from at → entries_at src left (p + 1) next (set out p 1) ≡ entries_at src (suc left) from at out
  step p next e = sym (placed ∙ goes_on_lem (on_place src left out) (sym e))

pub returns-in_err-ones : goal.returns-in_err-ones
returns-in_err-ones c =
    let a = c.args in
    let e : c.from_residual.result ≡ Err c.in_err-ones.field-0.0 = search rules in
    let f = c.in_err-ones.field-0.0 in
    rw e (refused-into f (list_at a.src.now (length a.out.now) a.at) a.out.now (list-sized a.src.now (length a.out.now) a.at ∙ stays-turned f (on_size a.src.now (length a.out.now)) (sym c.in_err-ones.ensures)))

pub loop-init : goal.loop-init
loop-init c =
    let a = c.args in (
      λ left e. let all : left ≡ c.in_ok-ones.ones = omega (arith, e) in
          ap (λ (n : ℕ). entries_at a.src.now n 0 c.in_ok-ones.next a.out.now) all
          ∙ ap (λ (l : List ℕ). entries_at a.src.now c.in_ok-ones.ones 0 c.in_ok-ones.next l) c.requires
          ∙ sym (list-sized a.src.now (length a.out.now) a.at ∙ goes_on_lem (on_size a.src.now (length a.out.now)) (sym c.in_ok-ones.ensures)),
      omega arith,
    )

pub returns-in_err-entry : goal.returns-in_err-entry
returns-in_err-entry c =
    let a = c.args in
    let l = c.loop in
    let f = c.in_err-entry.field-0.0 in
    let e : c.from_residual-in_err-entry.result ≡ Err f = search rules in
    let left = c.in_ok-ones.ones - l.counter - 1 in
    rw e (refused-into f (list_at a.src.now (length a.out.now) a.at) l.out
    (sym (l.invariant.0 (suc left) (omega (arith, c.loop-test.true))) ∙ stop a.src.now (length a.out.now) left l.from l.next l.out l.auto.out f c.in_err-entry.ensures))

pub bounds-out-entry : goal.bounds-out-entry
bounds-out-entry c =
    (place-inside c.args.src.now (length c.loop.out) c.loop.from c.loop.next c.in_ok-entry.entry c.in_ok-entry.behind (sym c.in_ok-entry.ensures)).1

pub overflow_add-from : goal.overflow_add-from
overflow_add-from c =
    let i = place-inside c.args.src.now (length c.loop.out) c.loop.from c.loop.next c.in_ok-entry.entry c.in_ok-entry.behind (sym c.in_ok-entry.ensures) in
    omega (arith, i, c.loop.auto.out, c.well_formed)

pub loop-preserved : goal.loop-preserved
loop-preserved c =
    let a = c.args in
    let l = c.loop in
    let i = place-inside a.src.now (length l.out) l.from l.next c.in_ok-entry.entry c.in_ok-entry.behind (sym c.in_ok-entry.ensures) in (
      λ left e. step a.src.now (length a.out.now) left l.from l.next l.out l.auto.out c.in_ok-entry.entry c.in_ok-entry.behind c.in_ok-entry.ensures ∙ l.invariant.0 (suc left) (omega (arith, e)),
      omega (arith, i, l.auto.out),
    )

pub returns : goal.returns
returns c =
    let l = c.loop in
    let a = c.args in
    ap (λ (x : Answer (List ℕ)). read_into x l.out)
    (sym (entries_none a.src.now l.from l.next l.out) ∙ l.invariant.0 0 (omega (arith, c.loop-test.false, l.auto)))
