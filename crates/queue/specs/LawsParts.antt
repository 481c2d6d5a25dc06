-- A test of all entries of a part. Assumes nothing.
use Rattle.std.specs.Prelude.{ℕ, ◌+◌, ◌≤◌, ◌<◌, ◌≡◌, refl, Bool, true, false, ◌||◌, List, fold, get_or, length}
use Rattle.std.specs.List.{between}
use Rattle.std.proofs.Common.{arith, ap, sym, ◌∙◌, below_more}
use Rattle.std.proofs.lemmas.List.Edits.{length-between, get_or-between}
use Rattle.flat.specs.Together.{fold-through}

neither : (a b : Bool) → a || b ≡ false → (a ≡ false) × (b ≡ false)
neither true b e = cc
neither false b e = (refl, e)

-- a fold that finds none: no entry of the part passes
pub none-passes : (f : ℕ → Bool) (at end : ℕ) (l : List ℕ) → end ≤ length l → fold (λ b v. b || f v) false (between at end l) ≡ false → (i : ℕ) → at + i < end → f (get_or l (at + i) 0) ≡ false
none-passes f at end l fits e i h =
    let xs = between at end l in
    let long = length-between l at end fits in
    ap f (sym (get_or-between l at end i 0 h))
    ∙ fold-through (λ b v. b || f v) false xs (λ n b. b ≡ false → (j : ℕ) → j < n → f (get_or xs j 0) ≡ false)
    (λ n b y p o. let q = neither b (f (get_or xs n 0)) o in below_more (λ j. f (get_or xs j 0) ≡ false) n (p q.0) q.1)
    (λ o j y. absurd (omega arith))
    e i (omega arith)
