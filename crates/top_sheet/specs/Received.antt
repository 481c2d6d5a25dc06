-- THE NEW TOP SHEET'S DEFECTS, by entries: one byte a detector, row by row. Assumes nothing.
use Rattle.std.specs.Prelude.{ℕ, zero, suc, ◌+◌, ◌-◌, ◌*◌, ◌/◌, ◌%◌, ◌≤◌, ◌<◌, ◌≡◌, false, List, eqb, length, get_or, set}
use Rattle.shape.specs.Choice.{if}
use Rattle.flat.specs.Codes.{node_code}

-- the detectors of the first h rows are fresh but for their defects, and every other entry is as it was
pub record Received (h d : ℕ) (bytes nodes nodes' : List ℕ) : Type 0 where
  pub long : length nodes' ≡ length nodes
  pub detectors : (r c : ℕ) → r < h → 1 ≤ c → c < d → get_or nodes' (512 + (r * (d + 1) + c)) 0 ≡ node_code false (eqb (get_or bytes (r * (d - 1) + (c - 1)) 0) 1) false 0
  pub sides : (r c : ℕ) → r < h → c ≤ d → (1 ≤ c → c < d → ⊥) → get_or nodes' (512 + (r * (d + 1) + c)) 0 ≡ get_or nodes (512 + (r * (d + 1) + c)) 0
  pub before : (x : ℕ) → x < 512 → get_or nodes' x 0 ≡ get_or nodes x 0
  pub behind : (x : ℕ) → 512 + h * (d + 1) ≤ x → get_or nodes' x 0 ≡ get_or nodes x 0

-- BYTE BY BYTE: the entry of a byte's detector, its defect, and those of n bytes
abbrev pub place_of : ℕ → ℕ → ℕ
place_of d j = 513 + (j / (d - 1) * (d + 1) + j % (d - 1))

abbrev pub put_one : ℕ → ℕ → ℕ → List ℕ → List ℕ
put_one d j byte nodes = if (eqb byte 1) (set nodes (place_of d j) 2) nodes

unfoldable pub put_from : ℕ → List ℕ → ℕ → ℕ → List ℕ → List ℕ
put_from d bytes from zero nodes = nodes
put_from d bytes from (suc n) nodes = put_one d (from + n) (get_or bytes (from + n) 0) (put_from d bytes from n nodes)
