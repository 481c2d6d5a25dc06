-- THE STEPS OF EACH RECORD, counted by the law's runs, are within the bound. Assumes nothing.
use Rattle.std.specs.Prelude.{ℕ, ◌≤◌, ◌≡◌, refl}
use Rattle.std.proofs.Common.{arith, sym, subst, ⊎_elim}
use mathlib.Core.List.{List, [], ◌∷◌, map}
use Rattle.refusal.specs.Answer.{Answer, done, ended, refused, refused_at, value_or}
use Rattle.shape.specs.Choice.{order}
use Rattle.shape.specs.declared.Shape.{Shape}
use Rattle.steps.specs.Steps.{Table}
use Rattle.steps.specs.Suited.{Suited}
use Rattle.steps.specs.Models.{of_model}
use Rattle.steps.proofs.Models.{suited-model}
use Rattle.record.specs.Records.{Result}
use Rattle.trip.specs.Fits.{Each}
use Rattle.window.specs.Fresh.{fresh_window}
use Rattle.window.specs.LawsRun.{ran-count}
use Rattle.window.specs.Calls.{run_call}
use Rattle.window.specs.declared.Ran.{Ran}
use Rattle.window.specs.declared.Window.{Window}
use Rattle.law.specs.Law.{Call, round, raw, grow, merging, run}
use Rattle.bound.specs.Bound.{bound_of}
use Rattle.bound.specs.Reachable.{Reachable, reachable-fresh, reachable-call}
use Rattle.bound.proofs.Theorem.{run-done}
use Rattle.decoding.specs.Decoding.{Decoded}
use Rattle.account.proofs.Resumed.{each_append}
use Rattle.account.specs.Account.{count_of, counts_of, calls_of, steps_in, Account}

module _ (T : Table) (S : Suited T) (sh : Shape) where
  abbrev Few : List ℕ → Type 0
  Few = Each (λ (n : ℕ). n ≤ bound_of sh)

  module _ (w : Window) (r : Reachable T sh w) where
    run-few : (budget : ℕ) (v : Ran) (z : ℕ) → run_call T w budget ≡ done v z → v.count ≤ bound_of sh
    run-few budget v z e =
        let d = run-done T S sh w r budget v z e in
        subst (λ (x : Ran). x.count ≤ bound_of sh) d.0 (⊎_elim (λ l. omega (arith, ran-count T budget w)) (λ l. d.1.steps budget l) (order budget (bound_of sh)))

    runs-few : (budget : ℕ) (a : Answer Ran) → run_call T w budget ≡ a → Few (value_or a (λ r. r.count ∷ []) [])
    runs-few budget (done v z) e = (run-few budget v z e, tt)
    runs-few budget ended e = tt
    runs-few budget (refused n) e = tt
    runs-few budget (refused_at n o) e = tt

    call-few : (c : Call) → Few (count_of T w c)
    call-few (round bytes edges escapes) = tt
    call-few (raw bytes edges escapes) = tt
    call-few grow = tt
    call-few merging = tt
    call-few (run budget) = runs-few budget (run_call T w budget) refl

  calls-few : (calls : List Call) (w : Window) → Reachable T sh w → Few (counts_of T w calls)
  unfolding counts_of
  calls-few [] w r = tt
  calls-few (c ∷ cs) w r = each_append (λ (n : ℕ). n ≤ bound_of sh) (count_of T w c) _ (call-few w r c) (calls-few cs _ (reachable-call T S sh w r c))

of-results : (most : ℕ) (rs : List Result) → Each (λ (n : ℕ). n ≤ most) (map steps_in rs) → Each (λ (r : Result). r.steps ≤ most) rs
of-results most [] e = tt
of-results most (r ∷ rs) e = (e.0, of-results most rs e.1)

pub steps-few : (s : List ℕ) (d : Decoded) (a : Account s d) → Each (λ (r : Result). r.steps ≤ bound_of a.output.shape) a.output.records
steps-few s d a =
    let sh = a.input.shape in
    let T = of_model sh.model in
    let r = reachable-fresh T (suited-model sh.model) sh a.input-fits.shape in
    subst (λ (x : Shape). Each (λ (r : Result). r.steps ≤ bound_of x) a.output.records) (sym a.shape)
    (of-results (bound_of sh) a.output.records
    (subst (Each (λ (n : ℕ). n ≤ bound_of sh)) a.steps (calls-few T (suited-model sh.model) sh (calls_of sh a.input.records) (fresh_window T sh) r)))
