-- WHAT BECOMES OF A NODE, IN ONE WORD: its mark, its number from 65,536 on, and 16,777,216 more if it stirs. Assumes nothing.
use Rattle.std.specs.Prelude.{ℕ, ◌+◌, ◌*◌, ◌/◌, ◌%◌, ◌<◌, Bool, true, false, ◌≡◌, leb}
use Rattle.std.proofs.Common.{arith, le-leb}
use Rattle.std.proofs.lemmas.Bool.{lt-leb}
use Rattle.window.specs.Lists.{bit}

abbrev pub mark_in : ℕ → ℕ
mark_in w = w % 65536

abbrev pub node_in : ℕ → ℕ
node_in w = w / 65536 % 256

abbrev pub stir_in : ℕ → Bool
stir_in w = leb 16777216 w

-- all three are read back
pub record Holds (mark node : ℕ) (stir : Bool) (w : ℕ) : Type 0 where
  pub mark-back : mark_in w ≡ mark
  pub node-back : node_in w ≡ node
  pub stir-back : stir_in w ≡ stir

pub word_holds : (m n : ℕ) (s : Bool) → m < 65536 → n < 256 → Holds m n s (m + 65536 * n + 16777216 * bit s)
word_holds m n true a b = record { mark-back = omega arith; node-back = omega arith; stir-back = le-leb 16777216 (m + 65536 * n + 16777216 * 1) (omega arith) }
word_holds m n false a b = record { mark-back = omega arith; node-back = omega arith; stir-back = lt-leb 16777216 (m + 65536 * n + 16777216 * 0) (omega arith) }
