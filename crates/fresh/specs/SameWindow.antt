-- S-6: A CALLER'S LIMITS SAY WHETHER A WINDOW IS CREATED, AND NOT WHICH ONE. Assumes nothing.
use Rattle.std.specs.Prelude.{ℕ, ◌≡◌, refl}
use Rattle.std.proofs.Common.{sym, ◌∙◌, ap}
use Rattle.refusal.specs.Answer.{Answer, done, ended, refused, refused_at, status, and_then}
use Rattle.shape.specs.Sizes.{max_height, max_distance, shape_by, shape_of}
use Rattle.shape.specs.declared.Shape.{Shape}
use Rattle.creation.specs.Creation.{allowed_shape}
use Rattle.steps.specs.Steps.{Table}
use Rattle.window.specs.Fresh.{fresh_window}
use Rattle.window.specs.Calls.{Answered, fresh_call, fresh_leaves}
use Rattle.window.proofs.LawsFresh.{started, by_shape, created, created-by}
use Rattle.window.specs.declared.Window.{Window}

-- THE STATEMENT, of any table of steps; H₁ and D₁, H₂ and D₂ are largest heights and distances
pub record SameWindow (T : Table) : Type 0 where
  -- For a shape and a model, any two limits that allow it create the same window.
  pub same : (height distance model H₁ D₁ H₂ D₂ : ℕ) (v w : Window) (i j : ℕ)
      → fresh_call T height distance model H₁ D₁ ≡ done v i → fresh_call T height distance model H₂ D₂ ≡ done w j → v ≡ w
  -- So two answers of `fresh` that are done, by its promise, have the same window.
  pub promised : (height distance model H₁ D₁ H₂ D₂ : ℕ) (x y : Answered (Unit {0})) (i j : ℕ)
      → x ≡ fresh_leaves T height distance model H₁ D₁ → y ≡ fresh_leaves T height distance model H₂ D₂
      → x.answer ≡ done tt i → y.answer ≡ done tt j → x.window ≡ y.window
  -- It is the window that the limits 15 and 15 create,
  pub rack : (height distance model H₁ D₁ : ℕ) (w : Window) (n : ℕ)
      → fresh_call T height distance model H₁ D₁ ≡ done w n → fresh_call T height distance model max_height max_distance ≡ done w 0
  -- and these refuse nothing but what is no shape (1, 2, 31).
  pub largest : (height distance model : ℕ)
      → fresh_call T height distance model max_height max_distance ≡ and_then (shape_of height distance model) (λ sh n. done (fresh_window T sh) n)
  -- The test that is exported answers what the creation does: 0 where it is done, else the number that it is refused with.
  pub tested : (height distance model H₁ D₁ : ℕ) → status (allowed_shape height distance model H₁ D₁) ≡ status (fresh_call T height distance model H₁ D₁)

-- THE PROOF

-- a step that is always done changes no status
status-on : {A B : Type 0} (a : Answer A) (f : A → B) → status a ≡ status (and_then a (λ v n. done (f v) n))
status-on (done v n) f = refl
status-on ended f = refl
status-on (refused n) f = refl
status-on (refused_at n at) f = refl

pub same-window : (T : Table) → SameWindow T
unfolding fresh_call
same-window T =
    record {
      same = λ h d m H₁ D₁ H₂ D₂ v w i j e f. sym (started T h d m H₁ D₁ v i e).value ∙ (started T h d m H₂ D₂ w j f).value;
      promised = λ h d m H₁ D₁ H₂ D₂ x y i j e f k l.
          sym (started T h d m H₁ D₁ x.window i (created-by (fresh_call T h d m H₁ D₁) x i e k)).value
          ∙ (started T h d m H₂ D₂ y.window j (created-by (fresh_call T h d m H₂ D₂) y j f l)).value;
      rack = λ h d m H₁ D₁ w n e. let x = started T h d m H₁ D₁ w n e in created T (shape_by h d m) x.range ∙ ap (λ (v : Window). done v 0) x.value;
      largest = by_shape T;
      tested = λ h d m H₁ D₁. status-on (allowed_shape h d m H₁ D₁) (λ (sh : Shape). fresh_window T sh);
    }
