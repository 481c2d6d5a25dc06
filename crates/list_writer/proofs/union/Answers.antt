-- `list_writer::union` meets its contract: the bits of all together tell what the largest entry does. Assumes nothing.
use Rattle.std.proofs.Common.{rules, ◌≡◌, ◌∙◌, ℕ, min, max, List, [], ◌∷◌, fold, arith}
use Rattle.std.specs.Int.Bits.{bit_or}
use Rattle.list_writer.specs.Gaps.{top}
use Rattle.list_writer.specs.Laws.{top-nil, top-cons, or-tells}
use Rattle.list_writer.proofs.union.Goals as goal

told : (l : List ℕ) (seen : ℕ) → min (fold bit_or seen l) 2 ≡ min (max seen (top l)) 2
told [] seen = omega (arith, top-nil)
told (x ∷ xs) seen = told xs (bit_or seen x) ∙ omega (arith, or-tells seen x, top-cons x xs)

pub returns : goal.returns
returns c =
    let e : c.fold.result ≡ fold bit_or 0 c.args.entries.now = search rules in
    omega (arith, e, told c.args.entries.now 0)
