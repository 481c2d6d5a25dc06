-- A test by numbers that a part gave. Assumes nothing.
use Prim.Native.Nat.{ℕ}
use mathlib.Core.Path.{◌≡◌, ◌∙◌}
use mathlib.Core.Bool.{true}
use borrow.Author.Tests.{eq-eqb}
use lib.Dec.{eqb}

pub same_by : (n k m : ℕ) → k ≡ m → n ≡ k → eqb n m ≡ true
same_by n k m e f = eq-eqb n m (f ∙ e)
