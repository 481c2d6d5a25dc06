-- What is seen of a refusal, whatever else is seen beside status and place. Assumes nothing.
use Rattle.std.specs.Prelude.{ℕ, ◌≡◌, refl}
use Rattle.std.proofs.Common.{sym, ◌∙◌, ap}
use Rattle.refusal.specs.Answer.{Answer, refused, refused_at, Code, by_code, turned}
use Rattle.refusal.specs.Laws.{each}
use Rattle.refusal.specs.declared.Refusal.{Refusal}
use Rattle.shape.specs.declared.Shape.{Shape}
use Rattle.scan.specs.Scanned.{Scanned}
use Rattle.reply.specs.Reply.{Reply, reply, replied, value_out, value_by, header_out, header_by, scan_out, scan_by}

-- what is made of a reply is what is seen of an answer, if it is for both kinds of refusal
module _ {A X : Type 0} (of : Answer A → X) (make : Reply → X) (place : ℕ)
    (plainly : (n : ℕ) → make (reply n place) ≡ of (refused n)) (placedly : (n at : ℕ) → make (reply n at) ≡ of (refused_at n at)) where
  pub when-turned : (a : Answer A) (f : Refusal) {r : Reply} → r ≡ replied (turned {A = Unit {0}} f) place → a ≡ turned f → make r ≡ of a
  when-turned a f q e =
      ap make q
      ∙ each (λ (k : Code). make (replied (by_code {A = Unit {0}} k) place) ≡ of (by_code k)) plainly placedly f
      ∙ sym (ap of e)

module _ (place : ℕ) (f : Refusal) {r : Reply} (q : r ≡ replied (turned {A = Unit {0}} f) place) where
  pub reply-turned : {A : Type 0} (a : Answer A) → a ≡ turned f → r ≡ replied a place
  reply-turned {A} a e = when-turned (λ (x : Answer A). replied x place) (λ (r : Reply). r) place (λ n. refl) (λ n at. refl) a f q e

  pub value-turned : (a : Answer ℕ) (value : ℕ) → a ≡ turned f → value_out r value ≡ value_by a value place
  value-turned a value e =
      when-turned (λ (x : Answer ℕ). value_by x value place) (λ (r : Reply). value_out r value) place (λ n. refl) (λ n at. refl) a f q e

  pub header-turned : (a : Answer Shape) (height distance model : ℕ) → a ≡ turned f
      → header_out r height distance model ≡ header_by a height distance model place
  header-turned a height distance model e =
      when-turned (λ (x : Answer Shape). header_by x height distance model place) (λ (r : Reply). header_out r height distance model) place (λ n. refl) (λ n at. refl) a f q e

  pub scan-turned : (a : Answer Scanned) (height distance model rounds : ℕ) → a ≡ turned f
      → scan_out r height distance model rounds ≡ scan_by a height distance model rounds place
  scan-turned a height distance model rounds e =
      when-turned (λ (x : Answer Scanned). scan_by x height distance model rounds place) (λ (r : Reply). scan_out r height distance model rounds) place (λ n. refl) (λ n at. refl) a f q e
