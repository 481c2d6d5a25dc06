-- Listed nodes, and what a node reads over a direction, stand in the arrays. Assumes nothing.
use Rattle.std.specs.Prelude.{ℕ, ◌+◌, ◌≤◌, ◌<◌, List, get_or}
use Rattle.std.proofs.Common.{arith}
use Rattle.flat.specs.Entries.{plane, planes, over_by}
use Rattle.flat.specs.LawsEntries.{inside}
use Rattle.flat.specs.Plan.{Safe}
use Rattle.flat.specs.Step.{Places}
use Rattle.flat.specs.declared.Sizes.{Sizes}

module _ (z : Sizes) (table : List ℕ) (s : Safe z table) (x k : ℕ) (a : 512 ≤ x) (b : x < 512 + z.nodes) where
  pub edge-low : k < 32 → over_by x (get_or table (32 + k) 0) < planes
  edge-low h = omega (arith, s.slots k h, s.nodes)

  pub node-low : k < 32 → over_by x (get_or table k 0) < plane
  node-low h = omega (arith, s.offs k h, s.nodes)

-- a place of a list is a node's
pub place-bounds : (n count : ℕ) (list : ℕ → ℕ) → n ≤ 3600 → Places n count list → (i : ℕ) → i < count → (512 ≤ list i) × (list i < 4112)
place-bounds n count list l p i h = let b = inside n (list i) (p i h) in (b.0, omega arith)
