-- THE PLAN of a shape: what the machine's table says of directions, kinds and nodes. Assumes nothing.
use Rattle.std.specs.Prelude.{ℕ, ◌+◌, ◌*◌, ◌%◌, ◌≤◌, ◌<◌, Bool, List, leb, eqb, get_or}
use Rattle.flat.specs.Entries.{plane}
use Rattle.flat.specs.declared.Sizes.{Sizes}

-- by direction, from 0: how far its neighbour lies and how far its edge, both with the margin added, and the pointer back; by kind: the
-- direction in which a node names its edge; by pointer: whether it has a D; by entry: the node's number, and whether it is a detector
pub record Plan : Type 0 where
  pub dirs : ℕ
  pub kinds : ℕ
  pub off : ℕ → ℕ
  pub slot : ℕ → ℕ
  pub back : ℕ → ℕ
  pub namer : ℕ → ℕ
  pub falls : ℕ → Bool
  pub own : ℕ → ℕ
  pub inner : ℕ → Bool

-- as the table has it: offsets first, numbers from the margin on; a node is a detector if its number is not one of the boundary nodes'
abbrev pub plan_of : Sizes → List ℕ → Plan
plan_of z table =
    record {
      dirs = z.dirs;
      kinds = z.kinds;
      off = λ k. get_or table k 0;
      slot = λ k. get_or table (32 + k) 0;
      back = λ k. get_or table (64 + k) 0;
      namer = λ kind. get_or table (96 + kind) 0;
      falls = λ p. eqb (get_or table (128 + p) 0) 1;
      own = λ x. get_or table x 0;
      inner = λ x. leb z.bound (get_or table x 0);
    }

-- what is fresh of a kind at a place of a sheet: growth 0, or no edge; and the entry of the bottom layer's edge of a number
abbrev pub template_in : List ℕ → ℕ → ℕ → ℕ
template_in table kind i = get_or table (plane + 240 * kind + i) 0 % 4

abbrev pub place_in : List ℕ → ℕ → ℕ
place_in table i = get_or table (6144 + i) 0

-- EVERY READING STAYS IN THE ARRAYS, whatever pointers the nodes hold
pub record Safe (z : Sizes) (table : List ℕ) : Type 0 where
  pub dirs : z.dirs ≤ 12
  pub kinds : z.kinds ≤ 6
  pub nodes : z.nodes ≤ 3600
  pub sheet : z.sheet ≤ 240
  pub sheets : z.sheet ≤ z.nodes
  pub offs : (k : ℕ) → k < 32 → get_or table k 0 ≤ 1008
  pub slots : (k : ℕ) → k < 32 → get_or table (32 + k) 0 ≤ 24048
  pub backs : (k : ℕ) → k < 32 → get_or table (64 + k) 0 ≤ 12
  pub namers : (kind : ℕ) → kind < 6 → get_or table (96 + kind) 0 < 12
