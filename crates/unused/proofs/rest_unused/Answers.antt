-- `unused::rest_unused` meets its contract. Assumes nothing.
use Rattle.std.proofs.Common.{◌≡◌, refl, ◌∙◌, Bool, true, false, ◌&&◌, List, [], ◌∷◌, drop, take, length, ℕ, ◌-◌, min, arith, rules, tests}
use Rattle.std.proofs.lemmas.Grind.{common_steps}
use Rattle.std.proofs.lemmas.Iterator.{YieldsList-from_slice}
use Rattle.std.proofs.lemmas.Iterator.Consumers.{fold_from_yields_List}
use Rattle.std.specs.List.{fold}
use Rattle.window.specs.Lists.{all}
use Rattle.unused.proofs.rest_unused.Goals as goal

and-true : (b : Bool) → b ≡ b && true
and-true true = refl
and-true false = refl

regroup : (a b c : Bool) → (a && b) && c ≡ a && (b && c)
regroup true b c = refl
regroup false b c = refl

-- the fold of the code, from b on
folds : {A : Type 0} (f : A → Bool) (b : Bool) (xs : List A) → fold (λ a x. a && f x) b xs ≡ b && all f xs
unfolding all
folds f b [] = and-true b
folds f b (x ∷ xs) = folds f (b && f x) xs ∙ regroup b (f x) (all f xs)

behind : {A : Type 0} (xs : List A) (n m e : ℕ) → m ≡ min n e → e ≡ length xs → take (e - m) (drop m xs) ≡ drop n xs
behind xs n m e p q = grind (arith, common_steps)

pub returns : goal.returns
returns g c =
    let f = g.E.Entry.is_unused in
    fold_from_yields_List _ (λ a x. a && f x) true _ c.fold.ensures.ran (YieldsList-from_slice (drop c.args.n c.args.entries.now) (c.iter.ensures.rest ∙ behind c.args.entries.now c.args.n c.min.result _ c.min.ensures (omega arith))) (λ a x b q k. search (rules, tests))
    ∙ folds f true (drop c.args.n c.args.entries.now)
