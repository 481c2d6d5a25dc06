-- The nodes one after another, in the internal order. Assumes nothing.
use Rattle.std.specs.Prelude.{ℕ, ◌+◌, ◌≡◌, ltb}
use Rattle.shape.specs.Choice.{if}
use Rattle.shape.specs.Sizes.{sheets_of}
use Rattle.shape.specs.Ranges.{Ranged}
use Rattle.shape.specs.Counting.{Inside}
use Rattle.shape.specs.Nodes.{index_of}
use Rattle.shape.specs.declared.Place.{Place}

-- the next column, or the next row's first, or the next sheet's
unfoldable pub place_after : ℕ → ℕ → Place → Place
place_after h d q =
    if (ltb q.column d) (record { depth = q.depth; row = q.row; column = q.column + 1 })
    (if (ltb (q.row + 1) h) (record { depth = q.depth; row = q.row + 1; column = 0 })
    (record { depth = q.depth + 1; row = 0; column = 0 }))

-- q is the place of the node g of a window
pub record Stands (h d : ℕ) (q : Place) (g : ℕ) : Type 0 where
  pub ranged : Ranged h d
  pub inside : Inside h d (sheets_of d) q
  pub index : g ≡ index_of h d q
