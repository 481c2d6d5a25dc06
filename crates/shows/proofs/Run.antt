-- A RUN OVER LISTS, as its loop goes: while it is under way some window is shown whose steps are still to be made, and when it is over that
-- window is the run's. Assumes nothing.
use Rattle.std.specs.Prelude.{ℕ, ◌+◌, ◌-◌, ◌≤◌, ◌<◌, ◌≡◌, refl, Bool, true, false, List}
use Rattle.std.proofs.Common.{arith, ◌∙◌, ap}
use Rattle.std.proofs.Math.Path.{sym, subst}
use Rattle.refusal.specs.Laws.{undone}
use Rattle.shape.specs.Sizes.{nodes_of}
use Rattle.shape.specs.declared.Shape.{Shape}
use Rattle.steps.specs.Steps.{Table}
use Rattle.steps.specs.Suited.{Suited}
use Rattle.window.specs.Grow.{grown}
use Rattle.window.specs.Round.{rounded}
use Rattle.window.specs.LawsRun.{rests, goes_on_lem, none_left, ran-grown}
use Rattle.window.specs.Merging.{merged}
use Rattle.window.specs.Run.{steps_from, ran}
use Rattle.window.specs.Window.{is_rest, size}
use Rattle.window.specs.declared.Ran.{Ran}
use Rattle.window.specs.declared.Window.{Window}
use Rattle.flat.specs.Entries.{State}
use Rattle.flat.specs.Plan.{Plan}
use Rattle.flat.specs.Step.{busy_in, Passed, Follows}
use Rattle.shows.specs.Run.{Underway, Over}
use Rattle.shows.specs.Pass.{Going}
use Rattle.shows.proofs.Pass.{pass-rest, pass_on, pass-shows, pass-going, pass-riding, pass_kept, pass-quiet}

-- after a round
pub ran-round : (T : Table) (budget : ℕ) (w : Window) (defects : List ℕ) → ran T budget (rounded T w defects) ≡ steps_from T budget 0 (grown T (rounded T w defects))
unfolding rounded
ran-round T budget w defects = ran-grown T budget (rounded T w defects) refl

module _ (T : Table) (P : Plan) (budget : ℕ) (whole : Ran) (rides : Bool) (w₀ : Window) where
  pub run-starts : (st : State) (count : ℕ) (list : ℕ → ℕ) → Going T P w₀ st rides count list → steps_from T budget 0 w₀ ≡ whole → Underway T P budget whole rides w₀ 0 st count list
  run-starts st count list G e =
      let z : budget - 0 ≡ budget = omega arith in
      record { window = w₀; shape = refl; next = refl; measured = refl; going = G; equals = ap (λ (n : ℕ). steps_from T n 0 w₀) z ∙ e }

  -- the budget is spent
  pub run-spent : (made : ℕ) (st : State) (count : ℕ) (list : ℕ → ℕ) → Underway T P budget whole rides w₀ made st count list → budget ≤ made → Over T P budget whole rides w₀ false made st
  run-spent made st count list U l =
      let z : budget - made ≡ 0 = omega arith in
      record {
        window = U.window;
        shape = U.shape;
        next = U.next;
        measured = U.measured;
        equals = sym U.equals ∙ ap (λ (n : ℕ). steps_from T n made U.window) z ∙ none_left T made U.window;
        kept = U.going.kept;
        shows = U.going.shows;
        still = λ e. absurd (undone (sym e));
        riding = U.going.riding;
        quiet = λ e. absurd (undone (sym e));
      }

  -- ONE PASS
  module _ (S : Suited T) (made : ℕ) (st : State) (count : ℕ) (list : ℕ → ℕ) (U : Underway T P budget whole rides w₀ made st count list) (l : made < budget) (st' : State) (A : Passed P st count list (size w₀) st') where
    abbrev w : Window
    w = U.window

    abbrev nodes : Shape → ℕ
    nodes sh = nodes_of sh.height sh.distance

    passed : Passed P st count list (size w) st'
    passed = subst (λ (sh : Shape). Passed P st count list (nodes sh) st') (sym U.shape) A

    -- no listed node was busy
    pub run-rests : busy_in P st count list ≡ false → Over T P budget whole rides w₀ true (made + 1) st'
    unfolding merged
    run-rests b =
        let r = pass-rest T S P w st rides count list U.going b in
        record {
          window = merged T w;
          shape = U.shape;
          next = U.next;
          measured = U.measured;
          equals = sym U.equals ∙ rests T made w budget l r;
          kept = pass_kept T S P w st rides count list U.going;
          shows = pass-shows T S P w st rides count list U.going st' passed;
          still = λ e. r;
          riding = pass-riding T S P w st rides count list U.going;
          quiet = λ e t. pass-quiet T S P w st rides count list U.going b t;
        }

    -- one was, and the next list follows, or is the same where pointers do not ride
    pub run-goes : (count' : ℕ) (list' : ℕ → ℕ) → (rides ≡ true → Follows P st count list (size w₀) count' list') → (rides ≡ false → (count' ≡ count) × ((i : ℕ) → i < count → list' i ≡ list i))
        → busy_in P st count list ≡ true → Underway T P budget whole rides w₀ (made + 1) st' count' list'
    unfolding merged
    run-goes count' list' follows same b =
        record {
          window = merged T w;
          shape = U.shape;
          next = U.next;
          measured = U.measured;
          going = pass-going T S P w st rides count list U.going st' passed count' list'
              (λ t. subst (λ (sh : Shape). Follows P st count list (nodes sh) count' list') (sym U.shape) (follows t)) same b;
          equals = sym (goes_on_lem T made w budget l (pass_on T S P w st rides count list U.going b)) ∙ U.equals;
        }
