-- `result::scan_result` meets its contract: its parts one after another. Assumes nothing.
use Rattle.std.proofs.Common.{rules, ◌≡◌, sym, ◌∙◌, ap, ℕ, List, Ok, Err, Result}
use Rattle.refusal.specs.Answer.{Answer, done, turned, without_value, reading}
use Rattle.refusal.specs.Laws.{turned_as, done_on}
use Rattle.refusal.specs.declared.Refusal.{Refusal}
use Rattle.number.specs.Number.{number_at}
use Rattle.list.specs.Sheet.{list_at}
use Rattle.record.specs.Records.{result_from}
use Rattle.record.specs.Records.{Result as Round}
use Rattle.record.specs.Calls.{steps_of}
use Rattle.record.proofs.Laws.{edges-turned, escapes-turned, steps-turned, result-done}
use Rattle.result.proofs.scan_result.Goals as goal

back : (a : Answer Round) (f : Refusal) → a ≡ turned f → turned f ≡ steps_of a
back a f e = sym (ap (λ (x : Answer Round). steps_of x) e ∙ turned_as {A = Round} f (λ r next. done r.steps next))

module _ (s : List ℕ) (edges detectors at next : ℕ) (e : without_value (list_at s edges at) ≡ done tt next) where
  not-escapes : (f : Refusal) → without_value (list_at s detectors next) ≡ turned f → turned f ≡ steps_of (result_from s edges detectors at)
  not-escapes f k =
      let c = done_on (list_at s edges at) next e in
      back (result_from s edges detectors at) f (escapes-turned s edges detectors at c.0 next c.1 f k)

  whole : (last : ℕ) → without_value (list_at s detectors next) ≡ done tt last → (r : Result (ℕ × ℕ) Refusal) → reading r ≡ number_at s last
      → reading r ≡ steps_of (result_from s edges detectors at)
  whole last k (Ok n) z =
      let c = done_on (list_at s edges at) next e in
      let x = done_on (list_at s detectors next) last k in
      sym (ap (λ (x : Answer Round). steps_of x) (result-done s edges detectors at c.0 next c.1 x.0 last x.1 n.0 n.1 (sym z)))
  whole last k (Err f) z =
      let c = done_on (list_at s edges at) next e in
      let x = done_on (list_at s detectors next) last k in
      back (result_from s edges detectors at) f (steps-turned s edges detectors at c.0 next c.1 x.0 last x.1 f (sym z))

pub returns-in_err-next : goal.returns-in_err-next
returns-in_err-next c =
    let a = c.args in
    let f = c.in_err-next.field-0.0 in
    let e : c.from_residual.result ≡ Err f = search rules in
    rw e (back (result_from a.src.now a.edges a.detectors a.at) f (edges-turned a.src.now a.edges a.detectors a.at f (sym c.in_err-next.ensures)))

pub returns-in_err-last : goal.returns-in_err-last
returns-in_err-last c =
    let a = c.args in
    let f = c.in_err-last.field-0.0 in
    let e : c.from_residual-in_err-last.result ≡ Err f = search rules in
    rw e (not-escapes a.src.now a.edges a.detectors a.at c.in_ok-next.next (sym c.in_ok-next.ensures) f (sym c.in_err-last.ensures))

pub returns : goal.returns
returns c =
    let a = c.args in
    whole a.src.now a.edges a.detectors a.at c.in_ok-next.next (sym c.in_ok-next.ensures) c.in_ok-last.last (sym c.in_ok-last.ensures) c.read_number.result c.read_number.ensures
