-- What a list of tests comes to: all pass, or the first that fails turns the call back. Assumes nothing.
use Rattle.std.specs.Prelude.{ℕ, ◌≡◌, refl, Bool, true, false, List, [], ◌∷◌, ◌++◌}
use Rattle.std.proofs.Common.{sym, ◌∙◌, ap}
use Rattle.refusal.specs.Answer.{Answer, done, refused, turned, unless, and_then, is_done}
use Rattle.refusal.specs.Laws.{turned-not, turned_as, undone}
use Rattle.refusal.specs.declared.Refusal.{Refusal}

abbrev pub Passes : List (Bool × ℕ) → Type 1
Passes tests = (A : Type 0) (a : Answer A) → unless tests a ≡ a

abbrev pub Turns : List (Bool × ℕ) → ℕ → Type 1
Turns tests n = (A : Type 0) (a : Answer A) → unless tests a ≡ refused n

-- the same by the refusal's name
abbrev pub Turned : List (Bool × ℕ) → Refusal → Type 1
Turned tests f = (A : Type 0) (a : Answer A) → unless tests a ≡ turned f

abbrev unless_one : {A : Type 0} → Bool → ℕ → Answer A → Answer A
unless_one test n a = elim test [ true ↦ a | false ↦ refused n ]

pub pass-none : Passes []
pass-none A a = refl

module _ (test : Bool) (n : ℕ) (tests : List (Bool × ℕ)) where
  pub pass-one : test ≡ true → Passes tests → Passes ((test, n) ∷ tests)
  pass-one e p A a = ap (λ (b : Bool). unless_one b n (unless tests a)) e ∙ p A a

  pub turn-here : test ≡ false → Turns ((test, n) ∷ tests) n
  turn-here e A a = ap (λ (b : Bool). unless_one b n (unless tests a)) e

  pub turn-later : (m : ℕ) → test ≡ true → Turns tests m → Turns ((test, n) ∷ tests) m
  turn-later m e p A a = ap (λ (b : Bool). unless_one b n (unless tests a)) e ∙ p A a

pub unless-append : {A : Type 0} (ts us : List (Bool × ℕ)) (a : Answer A) → unless (ts ++ us) a ≡ unless ts (unless us a)
unless-append [] us a = refl
unless-append {A} (t ∷ ts) us a = ap (λ (x : Answer A). unless_one t.0 t.1 x) (unless-append ts us a)

-- BY THE ANSWER that the tests give where there is nothing else to say

abbrev fine : Answer (Unit {0})
fine = done tt 0

by_first : (test : Bool) (n : ℕ) (tests : List (Bool × ℕ)) → unless_one test n (unless tests fine) ≡ fine → (test ≡ true) × (unless tests fine ≡ fine)
by_first true n tests e = (refl, e)
by_first false n tests e = absurd (undone (sym (ap (λ (x : Answer (Unit {0})). is_done x) e)))

pub tests-fine : (tests : List (Bool × ℕ)) → unless tests fine ≡ fine → Passes tests
tests-fine [] e A a = refl
tests-fine (t ∷ ts) e A a = let r = by_first t.0 t.1 ts e in pass-one t.0 t.1 ts r.0 (tests-fine ts r.1) A a

pub unless-then : {A B : Type 0} (tests : List (Bool × ℕ)) (a : Answer A) (g : A → ℕ → Answer B) → and_then (unless tests a) g ≡ unless tests (and_then a g)
unless-then [] a g = refl
unless-then {A} {B} (t ∷ ts) a g = go t.0 (unless-then ts a g)
  where
    go : (b : Bool) → and_then (unless ts a) g ≡ unless ts (and_then a g) → and_then (unless_one b t.1 (unless ts a)) g ≡ unless_one b t.1 (unless ts (and_then a g))
    go true e = e
    go false e = refl

fine-turned : (tests : List (Bool × ℕ)) (f : Refusal) → unless tests fine ≡ turned f → Turned tests f
fine-turned [] f e A a = absurd (undone (ap (λ (x : Answer (Unit {0})). is_done x) e ∙ turned-not (Unit {0}) f))
fine-turned (t ∷ ts) f e A a = go t.0 e (λ e. fine-turned ts f e A a)
  where
    go : (b : Bool) → unless_one b t.1 (unless ts fine) ≡ turned f → (unless ts fine ≡ turned f → unless ts a ≡ turned f) → unless_one b t.1 (unless ts a) ≡ turned f
    go true e r = r e
    go false e r = ap (λ (x : Answer (Unit {0})). and_then x (λ u next. a)) e ∙ turned_as f (λ u next. a)

-- one answer, whatever was to come
pub tests-turned : {A : Type 0} (tests : List (Bool × ℕ)) (v : A) (next : ℕ) (f : Refusal) → unless tests (done v next) ≡ turned f → Turned tests f
tests-turned {A} tests v next f e =
    fine-turned tests f
    (sym (unless-then tests (done v next) (λ u n. fine)) ∙ ap (λ (x : Answer A). and_then x (λ u n. fine)) e ∙ turned_as f (λ u n. fine))

-- what passes is what was to come
pub tests-done : {A : Type 0} (tests : List (Bool × ℕ)) (v w : A) (n m : ℕ) → unless tests (done v n) ≡ done w m → v ≡ w
tests-done [] v w n m e = cc
tests-done {A} (t ∷ ts) v w n m e = go t.0 e (λ e. tests-done ts v w n m e)
  where
    go : (b : Bool) → unless_one b t.1 (unless ts (done v n)) ≡ done w m → (unless ts (done v n) ≡ done w m → v ≡ w) → v ≡ w
    go true e r = r e
    go false e r = absurd (undone (sym (ap (λ (x : Answer A). is_done x) e)))

-- more tests after those
module _ (ts us : List (Bool × ℕ)) where
  pub pass-append : Passes ts → Passes us → Passes (ts ++ us)
  pass-append p q A a = unless-append ts us a ∙ p A (unless us a) ∙ q A a

  pub turned-first : (f : Refusal) → Turned ts f → Turned (ts ++ us) f
  turned-first f p A a = unless-append ts us a ∙ p A (unless us a)

  pub turned-after : (f : Refusal) → Passes ts → Turned us f → Turned (ts ++ us) f
  turned-after f p q A a = unless-append ts us a ∙ p A (unless us a) ∙ q A a

-- the last test of those that pass
still-turned : (tests : List (Bool × ℕ)) (n : ℕ) → is_done (unless {A = Unit {0}} tests (refused n)) ≡ false
still-turned [] n = refl
still-turned (t ∷ ts) n = go t.0 (still-turned ts n)
  where
    go : (b : Bool) → is_done (unless {A = Unit {0}} ts (refused n)) ≡ false → is_done (unless_one {A = Unit {0}} b t.1 (unless ts (refused n))) ≡ false
    go true e = e
    go false e = refl

pub passes-last : (tests : List (Bool × ℕ)) (test : Bool) (n : ℕ) → unless (tests ++ ((test, n) ∷ [])) fine ≡ fine → test ≡ true
passes-last tests true n e = refl
passes-last tests false n e =
    absurd (undone (sym (ap (λ (x : Answer (Unit {0})). is_done x) (sym (unless-append tests ((false, n) ∷ []) fine) ∙ e)) ∙ still-turned tests n))
