-- ENTRIES STORED AT THE PLACES OF A LIST: where it names a place its new value stands, be it named once or more often, and elsewhere the
-- old one. Assumes nothing.
use Prim.Native.Nat.{ℕ, zero, suc, ◌+◌, ◌<◌}
use Rattle.std.proofs.Common.{add-one, arith, ap, sym, ◌∙◌, ⊎_elim}
use Rattle.std.proofs.Math.Path.{◌≡◌, refl}
use Rattle.std.specs.Prelude.{Bool, true, List, get_or, set}
use Rattle.std.proofs.Math.Bool.{false, or-true, or-false}
use borrow.Author.Tests.{eqb-true, eqb-false}
use Rattle.std.proofs.Math.Dec.{eqb}
use Rattle.std.proofs.Math.ListN.{length, length-set, get_or-eq_default}
use Rattle.std.proofs.Math.Seq.{get_or-set_same, get_or-set_other}
use Rattle.shape.specs.Choice.{if, whether, order}
use Rattle.flat.specs.Step.{named}

unfoldable pub laid {ℓ} : {A : Type ℓ} → (ℕ → ℕ) → (ℕ → A) → ℕ → List A → List A
laid place new zero l = l
laid place new (suc i) l = set (laid place new i l) (place i) (new i)

module _ {ℓ} {A : Type ℓ} (place : ℕ → ℕ) (new : ℕ → A) where
  -- a loop's start and its turn
  pub laid_none : (l : List A) → l ≡ laid place new 0 l
  unfolding laid
  laid_none l = refl

  pub laid_next : (l : List A) (i : ℕ) (now : List A) (x : ℕ) (v : A) → now ≡ laid place new i l → x ≡ place i → v ≡ new i → set now x v ≡ laid place new (i + 1) l
  unfolding laid
  laid_next l i now x v p q r = rw (p, q, r, add-one)

  pub length-laid : (c : ℕ) (l : List A) → length (laid place new c l) ≡ length l
  unfolding laid
  length-laid zero l = refl
  length-laid (suc c) l = length-set (laid place new c l) (place c) (new c) ∙ length-laid c l

  pub laid-other : (l : List A) (z : A) (x c : ℕ) → named place c x ≡ false → get_or (laid place new c l) x z ≡ get_or l x z
  unfolding laid named
  laid-other l z x zero n = refl
  laid-other l z x (suc c) n =
      let a = whether (named place c x) (λ t. absurd (let q : ◌≡◌ {A = ℕ} 0 1 = cc in omega arith)) (λ t. t) in
      let b : eqb (place c) x ≡ false = rw a at n in
      get_or-set_other (laid place new c l) (place c) x (new c) z (λ e. eqb-false _ _ b (sym e)) ∙ laid-other l z x c a

pub if-same {ℓ} : {A : Type ℓ} (b : Bool) (v : A) → if b v v ≡ v
if-same true v = refl
if-same false v = refl

-- SEEN THROUGH A FUNCTION
module _ {ℓ ℓ'} {A : Type ℓ} {B : Type ℓ'} (g : A → B) (place : ℕ → ℕ) (new : ℕ → A) (l : List A) (z : A) (x : ℕ) where
  -- where the list names the place, what its new values show there
  pub laid-seen : x < length l → (v : B) (c : ℕ) → ((i : ℕ) → i < c → place i ≡ x → g (new i) ≡ v) → g (get_or (laid place new c l) x z) ≡ if (named place c x) v (g (get_or l x z))
  unfolding laid named
  laid-seen low v zero q = refl
  laid-seen low v (suc c) q =
      let rest = laid-seen low v c (λ i h. q i (omega arith)) in
      whether (eqb (place c) x)
      (λ t.
      let e : place c ≡ x = eqb-true _ _ t in
      let r : x < length (laid place new c l) = rw (length-laid place new c l) low in
      rw (t, or-true, e, get_or-set_same (laid place new c l) x (new c) z r) (q c (omega arith) e))
      (λ t. rw (t, or-false) (ap g (get_or-set_other (laid place new c l) (place c) x (new c) z (λ e. eqb-false _ _ t (sym e))) ∙ rest))

  -- if that is what was there, all is as it was
  pub laid-stays : (c : ℕ) → ((i : ℕ) → i < c → place i ≡ x → g (new i) ≡ g (get_or l x z)) → g (get_or (laid place new c l) x z) ≡ g (get_or l x z)
  laid-stays c q =
      ⊎_elim
      (λ low. laid-seen low (g (get_or l x z)) c q ∙ if-same (named place c x) (g (get_or l x z)))
      (λ high.
      let e = length-laid place new c l in
      ap g (get_or-eq_default (laid place new c l) z (omega arith) ∙ sym (get_or-eq_default l z high)))
      (order x (length l))

-- what stands where, if the new value is one of the place
pub laid-at {ℓ} : {A : Type ℓ} (place : ℕ → ℕ) (new f : ℕ → A) (l : List A) (z : A) (x : ℕ) → x < length l → (c : ℕ) → ((i : ℕ) → i < c → new i ≡ f (place i))
    → get_or (laid place new c l) x z ≡ if (named place c x) (f x) (get_or l x z)
laid-at {A = A} place new f l z x low c q = laid-seen (λ (v : A). v) place new l z x low (f x) c (λ i h e. q i h ∙ ap f e)
