-- The internal order: places and indices, there and back, for all shapes. Assumes nothing.
use Rattle.std.specs.Prelude.{ℕ, ◌+◌, ◌≤◌, ◌<◌, ◌≡◌, refl, Bool, true, false}
use Rattle.std.proofs.Common.{mul-le-mul, arith, sym, ◌∙◌, ap}
use Rattle.shape.specs.Sizes.{max_height, max_distance, in_range, nodes_in, nodes_of, sheets_of, max_sheets, max_nodes, max_numbers}
use Rattle.shape.specs.Choice.{if-false}
use Rattle.shape.specs.Nodes.{index_of, place_at}
use Rattle.shape.specs.Ranges.{Ranged}
use Rattle.shape.proofs.Ranges.{ranged, sheets-le, nodes-of}
use Rattle.shape.specs.Counting.{Inside, Within, count-place, place-count, count-lt, within-place}
use Rattle.shape.proofs.Totals.{by-sheets}
use Rattle.shape.specs.declared.Place.{Place}

module _ (h d : ℕ) where
  pub index-place : (g : ℕ) → index_of h d (place_at h d g) ≡ g
  unfolding index_of place_at
  index-place g = count-place h (d + 1) g

  module _ (k : ℕ) where
    rows : (q : Place) → Inside h d k q → Within h (d + 1) k q
    rows q i = record { depth = i.depth; row = i.row; column = omega (arith, i.column) }

    pub place-index : (q : Place) → Inside h d k q → place_at h d (index_of h d q) ≡ q
    unfolding index_of place_at
    place-index q i = place-count h (d + 1) k q (rows q i)

    pub index-injective : (q q' : Place) → Inside h d k q → Inside h d k q' → index_of h d q ≡ index_of h d q' → q ≡ q'
    index-injective q q' i j e = sym (place-index q i) ∙ ap (λ (g : ℕ). place_at h d g) e ∙ place-index q' j

    pub index-lt : (q : Place) → Inside h d k q → index_of h d q < nodes_in h d k
    unfolding index_of
    index-lt q i = rw (by-sheets h (d + 1) k) (count-lt h (d + 1) k q (rows q i))

    pub index-inside : (g : ℕ) → 1 ≤ h → g < nodes_in h d k → Inside h d k (place_at h d g)
    unfolding place_at
    index-inside g h1 l =
        let w = within-place h (d + 1) k g h1 (omega arith) (rw (by-sheets h (d + 1) k) at l) in
        record { depth = w.depth; row = w.row; column = omega (arith, w.column) }

pub nodes-le : (h d k n : ℕ) → Ranged h d → k ≤ n → nodes_in h d k ≤ nodes_in max_height max_distance n
nodes-le h d k n r l =
    let e : d + 1 ≤ max_distance + 1 = omega (arith, r.d-max) in
    mul-le-mul (mul-le-mul r.h-max e) l

pub window-le : (h d : ℕ) → Ranged h d → nodes_in h d (sheets_of d) ≤ max_nodes
window-le h d r = nodes-le h d (sheets_of d) max_sheets r (sheets-le d r.d-max)

-- with the ghost sheet
pub numbers-le : (h d : ℕ) → Ranged h d → nodes_in h d (sheets_of d + 1) ≤ max_numbers
numbers-le h d r = nodes-le h d (sheets_of d + 1) (max_sheets + 1) r (omega (arith, sheets-le d r.d-max))

-- of any shape, since one out of range has no nodes
pub nodes-max : (h d : ℕ) → nodes_of h d ≤ max_nodes
nodes-max h d = go (in_range h d) refl
  where
    go : (b : Bool) → in_range h d ≡ b → nodes_of h d ≤ max_nodes
    go true e = let r = ranged h d e in omega (arith, nodes-of h d r, window-le h d r)
    go false e = omega (arith, if-false (in_range h d) (nodes_in h d (sheets_of d)) 0 e)
