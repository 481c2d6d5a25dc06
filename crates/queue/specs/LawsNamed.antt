-- What a list names when entries are added. Assumes nothing.
use Rattle.std.specs.Prelude.{ℕ, zero, suc, ◌+◌, ◌≤◌, ◌<◌, ◌≡◌, refl, Bool, true, false, ◌||◌, List, eqb}
use Rattle.std.proofs.Common.{arith, ◌∙◌, ap, ⊎_elim}
use Rattle.std.proofs.Math.Bool.{or-true}
use Rattle.shape.specs.Choice.{whether, order}
use Rattle.flat.specs.Step.{named, list_at}
use Rattle.queue.specs.Queue.{Extends}

or-one : (a b : Bool) → (a || b) ≡ true → a ≡ false → b ≡ true
or-one true b e f = cc
or-one false b e f = e

-- an entry is named
pub named_in : (list : ℕ → ℕ) (i c x : ℕ) → i < c → eqb (list i) x ≡ true → named list c x ≡ true
unfolding named
named_in list i zero x h e = absurd (omega arith)
named_in list i (suc c) x h e =
    ⊎_elim
    (λ l. let t = named_in list i c x l e in rw t)
    (λ l.
    let s : i ≡ c = omega arith in
    let t : eqb (list c) x ≡ true = rw s at e in
    rw t (or-true (named list c x)))
    (order i c)

-- a longer list with the same entries names what the shorter one does
pub named-longer : (list list' : ℕ → ℕ) (c c' x : ℕ) → c ≤ c' → ((i : ℕ) → i < c → list' i ≡ list i) → named list c x ≡ true → named list' c' x ≡ true
unfolding named
named-longer list list' zero c' x l s t = absurd (let z : ◌≡◌ {A = ℕ} 0 1 = cc in omega arith)
named-longer list list' (suc c) c' x l s t =
    whether (named list c x)
    (λ a. named-longer list list' c c' x (omega arith) (λ i h. s i (omega arith)) a)
    (λ a. named_in list' c c' x (omega arith) (ap (λ (y : ℕ). eqb y x) (s c (omega arith)) ∙ or-one (named list c x) (eqb (list c) x) t a))

-- ENTRIES ADDED

pub extends-none : (from count : ℕ) (lists : List ℕ) → Extends from count count lists lists
extends-none from count lists = record { longer = omega arith; kept = λ i h. refl; behind = λ i h. refl }

module _ (from count more : ℕ) (old lists : List ℕ) (e : Extends from count more old lists) where
  pub extends-named : (x : ℕ) → named (list_at old from) count x ≡ true → named (list_at lists from) more x ≡ true
  extends-named x t = named-longer (list_at old from) (list_at lists from) count more x e.longer (λ i h. e.kept (from + i) (omega arith)) t

  pub extends-on : (most : ℕ) (lists' : List ℕ) → Extends from more most lists lists' → Extends from count most old lists'
  extends-on most lists' f =
      record {
        longer = omega (arith, e.longer, f.longer);
        kept = λ i h. f.kept i (omega (arith, e.longer)) ∙ e.kept i h;
        behind = λ i h. f.behind i h ∙ e.behind i h;
      }
