-- How long a record can be: any fits an empty buffer of the program. Assumes nothing.
use Rattle.std.specs.Prelude.{ℕ, ◌+◌, ◌*◌, ◌/◌, ◌≤◌, ◌<◌, ◌≡◌, refl, Bool, true, false, List, [], ◌∷◌, eqb, length}
use Rattle.std.proofs.Common.{arith, ◌∙◌, ap, ⊎_elim, eqb-true, length-append}
use Rattle.std.proofs.lemmas.Bool.{eqb-false}
use Rattle.number.specs.Number.{written}
use Rattle.number.specs.Laws.{written_one, written-more, length-written}
use Rattle.list.specs.Sheet.{ones, skips, listed}
use Rattle.list.specs.Laws.{listed-is, length-skips, ones-nil, ones-set, ones-unset}
use Rattle.shape.specs.Choice.{order}
use Rattle.shape.proofs.LawsSizes.{detectors-le, layer-le}
use Rattle.shape.proofs.Ranges.{ranged}
use Rattle.shape.specs.Sizes.{in_range}
use Rattle.steps.specs.Models.{of_model}
use Rattle.layers.proofs.Document.{count-model}
use Rattle.record.specs.Records.{result}
use Rattle.window.specs.Round.{rounded}
use Rattle.window.specs.LawsRun.{ran-count}
use Rattle.window.specs.declared.Window.{Window}
use Rattle.decoding.specs.Decoding.{budget, turn_of}
use Rattle.decoding.proofs.LawsTurn.{committed-long, escaped-long}
use Rattle.decoding.specs.Lengths.{max_record}

ones-most : (xs : List ℕ) → ones xs ≤ length xs
ones-most [] = rw ones-nil (omega arith)
ones-most (x ∷ xs) = go (eqb x 1) refl (ones-most xs)
  where
    go : (b : Bool) → eqb x 1 ≡ b → ones xs ≤ length xs → ones (x ∷ xs) ≤ length (x ∷ xs)
    go true e l = rw (ones-set x xs (eqb-true x 1 e)) (omega arith)
    go false e l = rw (ones-unset x xs (eqb-false x 1 e)) (omega arith)

-- a list has two bytes at most for each of its entries, and one more
listed-most : (xs : List ℕ) → length (listed xs) ≤ 2 * length xs + 1
listed-most xs =
    let a : length (listed xs) ≡ length (written (ones xs)) + length (skips 0 xs) = ap length (listed-is xs) ∙ length-append (written (ones xs)) (skips 0 xs) in
    omega (arith, a, (length-written (ones xs)).1, length-skips 0 xs, ones-most xs)

-- a number has one group for each seven bits
short : (n : ℕ) → n < 128 → length (written n) ≤ 1
short n l = rw (written_one n l) (omega arith)

longer : (n k : ℕ) → 128 ≤ n → length (written (n / 128)) ≤ k → length (written n) ≤ k + 1
longer n k l m = rw (written-more n l) (omega arith)

count-written : (n : ℕ) → n ≤ budget → length (written n) ≤ 3
count-written n l =
    ⊎_elim (λ a. let b = short n a in omega arith)
    (λ a. ⊎_elim (λ b. let c = longer n 1 a (short (n / 128) b) in omega arith)
    (λ b. longer n 2 a (longer (n / 128) 1 b (short (n / 128 / 128) (omega arith))))
    (order (n / 128) 128))
    (order n 128)

pub turn-most : (m : ℕ) (w : Window) (bytes : List ℕ) → in_range w.shape.height w.shape.distance ≡ true → length (result (turn_of (of_model m) w bytes).result) ≤ max_record
unfolding result
turn-most m w bytes e =
    let T = of_model m in
    let h = w.shape.height in
    let d = w.shape.distance in
    let r = (turn_of T w bytes).result in
    let a = listed-most r.edges in
    let b = listed-most r.escapes in
    let c = count-written r.steps (ran-count T budget (rounded T w bytes)) in
    let i = layer-le m h d (ranged h d e) in
    let j = detectors-le h d (ranged h d e) in
    let l = committed-long T w ∙ count-model m h d in
    let n = escaped-long w in
    let k : length (result r) ≡ length (listed r.edges) + (length (listed r.escapes) + length (written r.steps)) = simp length-append refl in
    omega arith
