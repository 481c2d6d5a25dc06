-- A PLAN THAT IS RIGHT for a table of steps and a shape. Assumes nothing.
use Rattle.std.specs.Prelude.{ℕ, ◌+◌, ◌≤◌, ◌<◌, ◌≡◌, not, length}
use Rattle.shape.specs.Choice.{if}
use Rattle.shape.specs.Sizes.{boundary, nodes_of}
use Rattle.shape.specs.Nodes.{number_of, place_at}
use Rattle.steps.specs.Steps.{Table, step, falls, namer}
use Rattle.steps.specs.Offsets.{back_by, on_by}
use Rattle.flat.specs.Entries.{margin, entry, cell}
use Rattle.flat.specs.Plan.{Plan}

pub record Planned (T : Table) (h d : ℕ) (P : Plan) : Type 0 where
  pub dirs : P.dirs ≡ length T.steps
  pub kinds : P.kinds ≡ T.kinds
  -- from the first node and from the last one it stays in the plane
  pub offs : (k : ℕ) → k < length T.steps → P.off k + back_by h d (step T (k + 1)) ≡ margin + on_by h d (step T (k + 1))
  pub most : (k : ℕ) → k < length T.steps → P.off k ≤ 1008
  -- at the node's own entry, or at its neighbour's
  pub slots : (k : ℕ) → k < length T.steps → P.slot k ≡ cell (step T (k + 1)).kind (if (step T (k + 1)).own margin (P.off k))
  pub backs : (k : ℕ) → k < length T.steps → P.back k ≡ (step T (k + 1)).back
  pub namers : (kind : ℕ) → kind < T.kinds → P.namer kind + 1 ≡ namer T kind
  pub down : (p : ℕ) → p ≤ length T.steps → P.falls p ≡ falls T p
  pub number : (g : ℕ) → g < nodes_of h d → P.own (entry g) ≡ number_of h d (place_at h d g)
  pub detects : (g : ℕ) → g < nodes_of h d → P.inner (entry g) ≡ not (boundary d (place_at h d g).column)
