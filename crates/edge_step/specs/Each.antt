-- WORDS THAT TELL: each of the first words of a plane has a property of its place. Assumes nothing.
use Rattle.std.specs.Prelude.{ℕ, ◌+◌, ◌<◌, ◌≡◌, List, get_or, set, length}
use Rattle.std.proofs.Common.{arith, sym, ◌∙◌, subst, ⊎_elim, length-set, get_or-set_same, get_or-set_other}
use Rattle.shape.specs.Choice.{order}
use Rattle.flat.specs.Entries.{plane}

pub record Each (Q : ℕ → ℕ → Type 0) (count : ℕ) (words : List ℕ) : Type 0 where
  pub long : length words ≡ plane
  pub told : (i : ℕ) → i < count → Q i (get_or words i 0)

-- a loop's start and its turn
module _ (Q : ℕ → ℕ → Type 0) (words : List ℕ) where
  pub each_none : length words ≡ plane → Each Q 0 words
  each_none e = record { long = e; told = λ i h. absurd (omega arith) }

  pub each_next : (i w : ℕ) → i < plane → Each Q i words → Q i w → Each Q (i + 1) (set words i w)
  each_next i w l e q =
      record {
        long = length-set words i w ∙ e.long;
        told = λ j h.
            ⊎_elim
            (λ y. subst (λ (v : ℕ). Q j v) (sym (get_or-set_other words i j w 0 (λ (s : j ≡ i). omega arith))) (e.told j y))
            (λ y.
            let s : i ≡ j = omega arith in
            subst (λ (k : ℕ). Q k (get_or (set words i w) k 0)) s (subst (λ (v : ℕ). Q i v) (sym (get_or-set_same words i w 0 (omega (arith, e.long)))) q))
            (order j i);
      }
