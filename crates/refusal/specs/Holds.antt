-- A list of tests that all hold, and what an answer behind them tells of them. Assumes nothing.
use Rattle.std.specs.Prelude.{ℕ, ◌≡◌, refl, Bool, true, false, List, [], ◌∷◌}
use Rattle.std.proofs.Common.{◌∙◌, ap}
use Rattle.refusal.specs.Answer.{Answer, done, refused, unless, is_done}
use Rattle.refusal.specs.Done.{took}
use Rattle.refusal.specs.Laws.{undone}
use Rattle.refusal.specs.Tests.{Passes, pass-one, pass-none}

abbrev pub Hold : List (Bool × ℕ) → Type 0
Hold [] = Unit {0}
Hold (t ∷ ts) = (t.0 ≡ true) × Hold ts

pub hold-pass : (tests : List (Bool × ℕ)) → Hold tests → Passes tests
hold-pass [] h = pass-none
hold-pass (t ∷ ts) h = pass-one t.0 t.1 ts h.0 (hold-pass ts h.1)

-- what is done behind tests passed them
pub done-holds : {A : Type 0} (tests : List (Bool × ℕ)) (a : Answer A) (v : A) (next : ℕ) → unless tests a ≡ done v next → Hold tests × (a ≡ done v next)
done-holds [] a v next e = (tt, e)
done-holds (t ∷ ts) a v next e =
    let p = took t.0 (unless ts a) (refused t.1) v next refl e in
    let q = done-holds ts a v next p.1 in
    ((p.0, q.0), q.1)

-- what is not done is what a test refused, whatever was to come
pub not-held : {A : Type 0} (tests : List (Bool × ℕ)) (v : A) (next : ℕ) (a other : Answer A) → is_done a ≡ false → unless tests (done v next) ≡ a → unless tests other ≡ a
not-held {A} [] v next a other k e = absurd (undone (ap (λ (x : Answer A). is_done x) e ∙ k))
not-held {A} (t ∷ ts) v next a other k e = go t.0 e (λ e. not-held ts v next a other k e)
  where
    go : (b : Bool) → elim b [ true ↦ unless ts (done v next) | false ↦ refused t.1 ] ≡ a → (unless ts (done v next) ≡ a → unless ts other ≡ a)
        → elim b [ true ↦ unless ts other | false ↦ refused t.1 ] ≡ a
    go true e r = r e
    go false e r = e
