-- Laws of answers. Assumes nothing.
use Rattle.std.specs.Prelude.{ℕ, ◌≡◌, refl, true, false, Result, Ok, Err}
use Rattle.std.proofs.Common.{sym, ◌∙◌, ap, arith}
use Rattle.refusal.specs.Answer.{Answer, done, ended, refused, refused_at, Code, plain, placed, code_of, by_code, turned, status, and_then, is_done, without_value, next_or, value_or, to_offset}
use Rattle.refusal.specs.declared.Refusal.{Refusal}

-- what holds of both kinds of number holds of every refusal
pub each : (P : Code → Type 0) → ((n : ℕ) → P (plain n)) → ((n at : ℕ) → P (placed n at)) → (f : Refusal) → P (code_of f)
each P p q f = go (code_of f)
  where
    go : (k : Code) → P k
    go (plain n) = p n
    go (placed n at) = q n at

-- a refusal's answer is the same for every kind of value
pub turned_as : {A B : Type 0} (f : Refusal) (g : A → ℕ → Answer B) → and_then (turned f) g ≡ turned f
turned_as {A} {B} f g = each (λ (k : Code). and_then (by_code {A = A} k) g ≡ by_code {A = B} k) (λ n. refl) (λ n at. refl) f

pub stays-turned : {A B : Type 0} {a : Answer A} (f : Refusal) (g : A → ℕ → Answer B) → a ≡ turned f → and_then a g ≡ turned f
stays-turned f g e = ap (λ (x : Answer _). and_then x g) e ∙ turned_as f g

pub turned-passed : (A : Type 0) (f : Refusal) → without_value (turned {A = A} f) ≡ turned f
turned-passed A f = each (λ (k : Code). without_value (by_code {A = A} k) ≡ by_code k) (λ n. refl) (λ n at. refl) f

pub turned-not : (A : Type 0) (f : Refusal) → is_done (turned {A = A} f) ≡ false
turned-not A f = each (λ (k : Code). is_done (by_code {A = A} k) ≡ false) (λ n. refl) (λ n at. refl) f

pub turned-next : (A : Type 0) (f : Refusal) (other : ℕ) → next_or (turned {A = A} f) other ≡ other
turned-next A f other = each (λ (k : Code). next_or (by_code {A = A} k) other ≡ other) (λ n. refl) (λ n at. refl) f

pub turned-status : (A B : Type 0) (f : Refusal) → status (turned {A = A} f) ≡ status (turned {A = B} f)
turned-status A B f = each (λ (k : Code). status (by_code {A = A} k) ≡ status (by_code {A = B} k)) (λ n. refl) (λ n at. refl) f

pub undone : true ≡ false → ⊥
undone e = let z : ◌≡◌ {A = ℕ} 0 1 = cc in omega arith

-- what is not done stays, whatever was to come
pub not_done : {A B : Type 0} (a : Answer A) (f : A → ℕ → Answer B) → is_done a ≡ false → without_value (and_then a f) ≡ without_value a
not_done (done a next) f e = absurd (undone e)
not_done ended f e = refl
not_done (refused n) f e = refl
not_done (refused_at n at) f e = refl

pub done-passed : {A : Type 0} (a : Answer A) → is_done (without_value a) ≡ is_done a
done-passed (done a next) = refl
done-passed ended = refl
done-passed (refused n) = refl
done-passed (refused_at n at) = refl

-- what is not done sets nothing
pub value_not : {A B : Type 0} (a : Answer A) (of : A → B) (other : B) → is_done a ≡ false → value_or a of other ≡ other
value_not (done a next) of other e = absurd (undone e)
value_not ended of other e = refl
value_not (refused n) of other e = refl
value_not (refused_at n at) of other e = refl

-- a value that is the same, done or not
pub value_same : {A B : Type 0} (a : Answer A) (x : B) → value_or a (λ r. x) x ≡ x
value_same (done a next) x = refl
value_same ended x = refl
value_same (refused n) x = refl
value_same (refused_at n at) x = refl

-- and one that takes nothing from the answer
pub value-without : {A B : Type 0} (a : Answer A) (x other : B) → value_or (without_value a) (λ u. x) other ≡ value_or a (λ r. x) other
value-without (done a next) x other = refl
value-without ended x other = refl
value-without (refused n) x other = refl
value-without (refused_at n at) x other = refl

-- WHAT CAME BEFORE, from an answer without its value

-- a refusal is the same whatever was to come
pub turned_on : {A B : Type 0} (a : Answer A) (f : Refusal) (g : A → ℕ → Answer B) → without_value a ≡ turned f → and_then a g ≡ turned f
turned_on (done v next) f g e = absurd (undone (ap (λ (x : Answer (Unit {0})). is_done x) e ∙ turned-not (Unit {0}) f))
turned_on ended f g e = ap (λ (x : Answer (Unit {0})). and_then x (λ u n. ended)) e ∙ turned_as f (λ u n. ended)
turned_on (refused n) f g e = ap (λ (x : Answer (Unit {0})). and_then x (λ u n. ended)) e ∙ turned_as f (λ u n. ended)
turned_on (refused_at n at) f g e = ap (λ (x : Answer (Unit {0})). and_then x (λ u n. ended)) e ∙ turned_as f (λ u n. ended)

-- and so is an end
pub ended-on : {A B : Type 0} (a : Answer A) (g : A → ℕ → Answer B) → without_value a ≡ ended → and_then a g ≡ ended
ended-on (done v next) g e = absurd (undone (ap (λ (x : Answer (Unit {0})). is_done x) e))
ended-on ended g e = refl
ended-on (refused n) g e = let z : ◌≡◌ {A = ℕ} 0 1 = cc in absurd (omega arith)
ended-on (refused_at n at) g e = let z : ◌≡◌ {A = ℕ} 0 1 = cc in absurd (omega arith)

-- so both are known without the value
itself-on : {A : Type 0} (a : Answer A) → and_then a (λ v next. done v next) ≡ a
itself-on (done v next) = refl
itself-on ended = refl
itself-on (refused n) = refl
itself-on (refused_at n at) = refl

pub turned-back : {A : Type 0} (a : Answer A) (f : Refusal) → without_value a ≡ turned f → a ≡ turned f
turned-back a f e = sym (itself-on a) ∙ turned_on a f (λ v next. done v next) e

pub ended-back : {A : Type 0} (a : Answer A) → without_value a ≡ ended → a ≡ ended
ended-back a e = sym (itself-on a) ∙ ended-on a (λ v next. done v next) e

pub done_on : {A : Type 0} (a : Answer A) (next : ℕ) → without_value a ≡ done tt next → (v : A) × (a ≡ done v next)
done_on (done v n) next e = let k : n ≡ next = cc in (v, ap (λ (m : ℕ). done v m) k)
done_on ended next e = absurd (undone (sym (ap (λ (x : Answer (Unit {0})). is_done x) e)))
done_on (refused n) next e = absurd (undone (sym (ap (λ (x : Answer (Unit {0})). is_done x) e)))
done_on (refused_at n at) next e = absurd (undone (sym (ap (λ (x : Answer (Unit {0})). is_done x) e)))

pub done-is : {A : Type 0} (a : Answer A) → is_done a ≡ true → (v : A) × (next : ℕ) × (a ≡ done v next)
done-is (done v next) e = (v, next, refl)
done-is ended e = absurd (undone (sym e))
done-is (refused n) e = absurd (undone (sym e))
done-is (refused_at n at) e = absurd (undone (sym e))

-- what ends at an offset is Ok
pub to-ok : (r : Result ℕ Refusal) (next : ℕ) → to_offset r ≡ done tt next → r ≡ Ok next
to-ok (Ok n) next e = let k : n ≡ next = cc in ap (λ (m : ℕ). Ok m) k
to-ok (Err f) next e = absurd (undone (sym (ap (λ (x : Answer (Unit {0})). is_done x) e) ∙ turned-not (Unit {0}) f))
