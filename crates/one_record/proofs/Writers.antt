-- A writer all of whose tests but that of the room pass, by what it told. Assumes nothing.
use Prim.Native.Nat.{ℕ, ◌+◌, ◌-◌}
use native.Mathlib.Omega.{arith}
use mathlib.Core.Path.{◌≡◌, refl, sym, ◌∙◌, ap}
use mathlib.Core.Bool.{Bool, true, false}
use mathlib.Core.List.{List}
use borrow.Author.Tests.{leb-true, leb-false}
use lib.Dec.{leb}
use lib.ListN.{length}
use Rattle.refusal.specs.Answer.{Answer, done, refused, Code, plain, placed, code_of, by_code, turned}
use Rattle.refusal.specs.Done.{never}
use Rattle.refusal.specs.Filling.{writing-done, writing-full}
use Rattle.refusal.specs.Laws.{turned-not}
use Rattle.refusal.specs.Tests.{Passes}
use Rattle.refusal.specs.Writing.{Buffered, buffered, writing, laid}
use Rattle.refusal.specs.declared.Refusal.{Refusal}

-- a refusal is told by its code
code_is : (k : Code) (n : ℕ) → by_code {A = Unit {0}} k ≡ refused n → k ≡ plain n
code_is (plain m) n e = let z : m ≡ n = cc in ap plain z
code_is (placed m at) n e = let z : ◌≡◌ {A = ℕ} 0 1 = cc in absurd (omega arith)

module _ (tests : List (Bool × ℕ)) (pass : Passes tests) (old : List ℕ) (at : ℕ) (bytes new : List ℕ) where
  abbrev has_room : Bool
  has_room = leb (length bytes) (length old - at)

  -- it was refused for want of room, and nothing was written
  pub record Full (f : Refusal) : Type 0 where
    pub room : has_room ≡ false
    pub code : code_of f ≡ plain 11
    pub buffer : new ≡ old

  pub writer-full : (f : Refusal) → buffered (turned f) new ≡ writing tests old at bytes → Full f
  writer-full f e = go has_room refl
    where
      go : (b : Bool) → has_room ≡ b → Full f
      go true l =
          let z = writing-done tests old at bytes pass (leb-true (length bytes) (length old - at) l) ∙ sym e in
          absurd (never (sym (ap (λ (x : Buffered). x.answer) z)) (turned-not (Unit {0}) f))
      go false l =
          let z = e ∙ sym (writing-full tests old at bytes pass (leb-false (length bytes) (length old - at) l)) in
          record { room = l; code = code_is (code_of f) 11 (ap (λ (x : Buffered). x.answer) z); buffer = ap (λ (x : Buffered). x.buffer) z }

  -- it wrote
  pub record Fits (behind : ℕ) : Type 0 where
    pub room : has_room ≡ true
    pub next : behind ≡ at + length bytes
    pub buffer : new ≡ laid old at bytes

  pub writer-wrote : (behind : ℕ) → buffered (done tt behind) new ≡ writing tests old at bytes → Fits behind
  writer-wrote behind e = go has_room refl
    where
      go : (b : Bool) → has_room ≡ b → Fits behind
      go true l =
          let z = e ∙ sym (writing-done tests old at bytes pass (leb-true (length bytes) (length old - at) l)) in
          let a : ◌≡◌ {A = Answer (Unit {0})} (done tt behind) (done tt (at + length bytes)) = ap (λ (x : Buffered). x.answer) z in
          record { room = l; next = cc a; buffer = ap (λ (x : Buffered). x.buffer) z }
      go false l =
          let z = e ∙ sym (writing-full tests old at bytes pass (leb-false (length bytes) (length old - at) l)) in
          absurd (never (sym (ap (λ (x : Buffered). x.answer) z)) refl)
