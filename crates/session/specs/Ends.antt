-- Rounds on the machine's arrays, by the rule: with some window, or with the window that is packed from the set that shows it. Assumes nothing.
use Rattle.std.specs.Prelude.{ℕ, ◌≡◌, refl, Bool, true, false, List}
use Rattle.std.proofs.Common.{sym, ◌∙◌, ap, subst}
use Rattle.refusal.specs.Laws.{undone}
use Rattle.shape.specs.Choice.{if, if-true, if-false}
use Rattle.steps.specs.Steps.{Table}
use Rattle.window.specs.Window.{is_rest}
use Rattle.window.specs.declared.Stage.{Stage}
use Rattle.window.specs.declared.Stage.TheVariants.{Rest, ToGrow, Merging}
use Rattle.window.specs.declared.Window.{Window}
use Rattle.decoding.specs.Decoding.{Line}
use Rattle.decoding.specs.Answers.{rounds_returned, rounds_leave}
use Rattle.flat.specs.Entries.{State}
use Rattle.shows.specs.Shows.{window_of}
use Rattle.shows.specs.Unpack.{window-shown}
use Rattle.rounds_on.specs.Rounds.{RoundsEnd}

-- the rounds end so
abbrev pub Ends : Table → Window → List ℕ → ℕ → List ℕ → ℕ → Line → ℕ → ℕ → List ℕ → Type 0
Ends T w s at old from line i j new = (v : Window) × (rounds_returned line v i j new ≡ rounds_leave T s w at old from)

-- the stage of a window at rest
rest-is : (stage : Stage) → is_rest stage ≡ true → stage ≡ Rest
rest-is Rest e = refl
rest-is ToGrow e = absurd (undone (sym e))
rest-is Merging e = absurd (undone (sym e))

module _ (T : Table) (w : Window) (s : List ℕ) (at : ℕ) (old : List ℕ) (from : ℕ) (line : Line) (i j : ℕ) (new : List ℕ) (next : ℕ) where
  -- the window is packed
  packed : (st : State) → RoundsEnd T w s at old from line i j new next st → (v : Window) → v ≡ window_of T w.shape Rest next w.measured st → rounds_returned line v i j new ≡ rounds_leave T s w at old from
  packed st R v e =
      let u = R.window in
      let p : window_of T w.shape Rest next w.measured st ≡ u = rw (← R.shape, ← R.next-is, ← R.measured, ← rest-is u.stage R.rest) (window-shown T u R.kept st R.shows) in
      ap (λ (x : Window). rounds_returned line x i j new) (e ∙ p) ∙ R.leaves

  module _ (in-other : Bool) (other first : State) (R : RoundsEnd T w s at old from line i j new next (if in-other other first)) (v : Window) where
    pub packed-other : in-other ≡ true → v ≡ window_of T w.shape Rest next w.measured other → rounds_returned line v i j new ≡ rounds_leave T s w at old from
    packed-other t = packed other (subst (λ (st : State). RoundsEnd T w s at old from line i j new next st) (if-true in-other other first t) R) v

    pub packed-first : in-other ≡ false → v ≡ window_of T w.shape Rest next w.measured first → rounds_returned line v i j new ≡ rounds_leave T s w at old from
    packed-first t = packed first (subst (λ (st : State). RoundsEnd T w s at old from line i j new next st) (if-false in-other other first t) R) v
