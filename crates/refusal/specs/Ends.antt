-- Answers that are never an end, by their steps and tests. Assumes nothing.
use Rattle.std.specs.Prelude.{ℕ, Bool, true, false, ◌≡◌}
use Rattle.std.proofs.Common.{subst}
use Rattle.refusal.specs.Answer.{Answer, done, ended, refused, refused_at, and_then}

abbrev pub NoEnd : {A : Type 0} → Answer A → Type 0
NoEnd (done a next) = Unit {0}
NoEnd ended = ⊥
NoEnd (refused n) = Unit {0}
NoEnd (refused_at n at) = Unit {0}

pub no_end_lem : {A : Type 0} {a : Answer A} → NoEnd a → a ≡ ended → ⊥
no_end_lem h e = subst NoEnd e h

pub no-end-then : {A B : Type 0} (a : Answer A) (f : A → ℕ → Answer B) → NoEnd a → ((v : A) (next : ℕ) → NoEnd (f v next)) → NoEnd (and_then a f)
no-end-then (done v next) f h k = k v next
no-end-then ended f h k = absurd h
no-end-then (refused n) f h k = tt
no-end-then (refused_at n at) f h k = tt

pub no-end-test : {A : Type 0} (t : Bool) (a b : Answer A) → NoEnd a → NoEnd b → NoEnd {A = A} (elim t [ true ↦ a | false ↦ b ])
no-end-test true a b h k = h
no-end-test false a b h k = k
