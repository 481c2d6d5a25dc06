-- Stages, and marks, are told apart. Assumes nothing.
use Rattle.std.specs.Prelude.{ℕ, ◌≡◌, refl, true, false}
use Rattle.std.proofs.Common.{arith, sym}
use Rattle.refusal.specs.Laws.{undone}
use Rattle.shape.specs.Sizes.{sheets_of}
use Rattle.window.specs.Window.{is_rest, is_to_grow, is_merging, led_to}
use Rattle.window.specs.declared.Mark.TheVariants.{Reset, Root}
use Rattle.window.specs.declared.Stage.{Stage}
use Rattle.window.specs.declared.Stage.TheVariants.{Rest, ToGrow, Merging}

pub rest-not-merging : (stage : Stage) → is_rest stage ≡ true → is_merging stage ≡ true → ⊥
rest-not-merging Rest a b = undone (sym b)
rest-not-merging ToGrow a b = undone (sym a)
rest-not-merging Merging a b = undone (sym a)

-- merging is neither rest nor to grow
pub merging-on : (stage : Stage) → is_merging stage ≡ true → (is_rest stage ≡ false) × (is_to_grow stage ≡ false)
merging-on Rest e = absurd (undone (sym e))
merging-on ToGrow e = absurd (undone (sym e))
merging-on Merging e = (refl, refl)

-- other than in stage to grow, pointers lead to sheets of the window
pub rest-led : (d : ℕ) (stage : Stage) → is_rest stage ≡ true → led_to d stage ≡ sheets_of d
rest-led d Rest e = refl
rest-led d ToGrow e = absurd (undone (sym e))
rest-led d Merging e = refl

pub merging-led : (d : ℕ) (stage : Stage) → is_merging stage ≡ true → led_to d stage ≡ sheets_of d
merging-led d Rest e = refl
merging-led d ToGrow e = absurd (undone (sym e))
merging-led d Merging e = refl

-- a number is not reset, and no other number
pub reset-not : (m : ℕ) → Reset ≡ Root m → ⊥
reset-not m e = let z : ◌≡◌ {A = ℕ} 0 1 = cc in omega arith

pub same_number : (m n : ℕ) → Root m ≡ Root n → m ≡ n
same_number m n e = cc
