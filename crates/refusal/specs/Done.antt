-- An answer that is done, by its steps and tests: it is where each step is and each test passes, and only there. Assumes nothing.
use Rattle.std.specs.Prelude.{ℕ, ◌≡◌, refl, Bool, true, false}
use Rattle.std.proofs.Common.{sym, ◌∙◌, ap}
use Rattle.refusal.specs.Answer.{Answer, done, ended, refused, refused_at, and_then, is_done}
use Rattle.refusal.specs.Laws.{undone}

-- what is not done is equal to nothing that is
pub never : {A : Type 0} {a : Answer A} {v : A} {next : ℕ} → a ≡ done v next → is_done a ≡ false → ⊥
never {A} e h = undone (sym (ap (λ (x : Answer A). is_done x) e) ∙ h)

-- THE STEPS

pub goes_on_lem : {A B : Type 0} {a : Answer A} {v : A} {next : ℕ} (f : A → ℕ → Answer B) → a ≡ done v next → and_then a f ≡ f v next
goes_on_lem f e = ap (λ (x : Answer _). and_then x f) e

-- the step before, and what went on from it
pub record Went {A B : Type 0} (a : Answer A) (f : A → ℕ → Answer B) (b : B) (end : ℕ) : Type 0 where
  pub value : A
  pub next : ℕ
  pub before : a ≡ done value next
  pub after : f value next ≡ done b end

pub went : {A B : Type 0} (a : Answer A) (f : A → ℕ → Answer B) (b : B) (end : ℕ) → and_then a f ≡ done b end → Went a f b end
went (done v next) f b end e = record { value = v; next = next; before = refl; after = e }
went ended f b end e = absurd (never e refl)
went (refused n) f b end e = absurd (never e refl)
went (refused_at n at) f b end e = absurd (never e refl)

-- THE TESTS

pub passes : {A : Type 0} {t : Bool} (a other : Answer A) → t ≡ true → elim t [ true ↦ a | false ↦ other ] ≡ a
passes {t = true} a other e = refl
passes {t = false} a other e = absurd (undone (sym e))

pub fails : {A : Type 0} {t : Bool} (a other : Answer A) → t ≡ false → elim t [ true ↦ a | false ↦ other ] ≡ other
fails {t = false} a other e = refl
fails {t = true} a other e = absurd (undone e)

-- other is not done, so it was not taken
pub took : {A : Type 0} (t : Bool) (a other : Answer A) (v : A) (next : ℕ) → is_done other ≡ false → elim t [ true ↦ a | false ↦ other ] ≡ done v next
    → (t ≡ true) × (a ≡ done v next)
took true a other v next h e = (refl, e)
took false a other v next h e = absurd (never e h)
