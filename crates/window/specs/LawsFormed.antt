-- A node's fresh state, by its mark. Assumes nothing.
use Rattle.std.specs.Prelude.{ℕ, ◌≡◌, Bool, false, ◌&&◌, not, eqb}
use Rattle.std.proofs.Common.{ap}
use Rattle.window.specs.LawsLists.{and_no}
use Rattle.window.specs.Formed.{is_number, is_fresh}
use Rattle.window.specs.declared.Mark.TheVariants.{Reset, Root}
use Rattle.window.specs.declared.Node.{Node}

-- what is tested of a node besides its mark
abbrev clear : Node → Bool
clear n = not n.active && not n.defect && not n.unrooted && eqb n.pointer 0

module _ (own : ℕ) (n : Node) where
  pub fresh-reset : n.mark ≡ Reset → is_fresh own n ≡ false
  fresh-reset e = and_no (clear n) (is_number own n.mark) (ap (is_number own) e)

  pub fresh-root : (m : ℕ) → n.mark ≡ Root m → is_fresh own n ≡ clear n && eqb m own
  fresh-root m e = ap (λ (x : Bool). clear n && x) (ap (is_number own) e)
