-- TESTS OF LISTED ENTRIES. Assumes nothing.
use Rattle.std.specs.Prelude.{ℕ, zero, suc, ◌<◌, ◌≡◌, refl, Bool, true, false, ◌||◌, eqb}
use Rattle.std.proofs.Common.{arith, eq-or-lt_of_le, sym, ◌∙◌, ap, ap₂, ⊎_elim, eqb-true, eq-eqb}
use Rattle.refusal.specs.Laws.{undone}
use Rattle.window.specs.Lists.{any}
use Rattle.closure.specs.Lists.{either, other, choice}
use Rattle.flat.specs.Step.{named}

-- an entry that is named stands in the list, and what stands there is named
pub named-found : (list : ℕ → ℕ) (c x : ℕ) → named list c x ≡ true → (i : ℕ) × (i < c) × (list i ≡ x)
unfolding named
named-found list zero x e = absurd (undone (sym e))
named-found list (suc c) x e =
    choice (named list c x) (eqb (list c) x) e
    (λ a. let r = named-found list c x a in (r.0, let l = r.1 in omega arith, r.2))
    (λ a. (c, omega arith, eqb-true (list c) x a))

pub list-named : (list : ℕ → ℕ) (c i : ℕ) → i < c → named list c (list i) ≡ true
unfolding named
list-named list zero i l = absurd (omega arith)
list-named list (suc c) i l =
    ⊎_elim (λ p. let e : i ≡ c = omega arith in rw e (other (named list c (list c)) _ (eq-eqb (list c) (list c) refl)))
    (λ p. let b : i < c = omega arith in either _ _ (list-named list c i b))
    (eq-or-lt_of_le l)

-- a list that stands elsewhere
pub named-same : (list list' : ℕ → ℕ) (c x : ℕ) → ((i : ℕ) → i < c → list' i ≡ list i) → named list' c x ≡ named list c x
unfolding named
named-same list list' zero x e = refl
named-same list list' (suc c) x e = ap₂ (λ (a : Bool) (y : ℕ). a || eqb y x) (named-same list list' c x (λ i l. e i (omega arith))) (e c (omega arith))

-- a test that passes at a named entry passes in the list
pub listed_at : (list : ℕ → ℕ) (f : ℕ → Bool) (c x : ℕ) → named list c x ≡ true → f x ≡ true → any c (λ i. f (list i)) ≡ true
unfolding named any
listed_at list f zero x n t = cc
listed_at list f (suc c) x n t =
    choice (named list c x) (eqb (list c) x) n
    (λ a. either _ _ (listed_at list f c x a t))
    (λ a. other (any c (λ i. f (list i))) (f (list c)) (ap f (eqb-true (list c) x a) ∙ t))

-- a test that passes at some place of some passes at one
pub any_found : (f : ℕ → Bool) (c : ℕ) → any c f ≡ true → (i : ℕ) × (i < c) × (f i ≡ true)
unfolding any
any_found f zero e = absurd (undone (sym e))
any_found f (suc c) e =
    choice (any c f) (f c) e
    (λ a. let r = any_found f c a in (r.0, let l = r.1 in omega arith, r.2))
    (λ a. (c, omega arith, a))

pub same_test : (a b : Bool) → (a ≡ true → b ≡ true) → (b ≡ true → a ≡ true) → a ≡ b
same_test true true f g = refl
same_test true false f g = sym (f refl)
same_test false true f g = g refl
same_test false false f g = refl
