-- NODES THAT A STEP LEAVES AS THEY ARE, and so which nodes a work list may leave out. Assumes nothing.
use Rattle.std.specs.Prelude.{ℕ, ◌<◌, ◌≡◌, Bool, true, ◌||◌}
use Rattle.std.proofs.Math.Bool.{false}
use Rattle.steps.specs.Steps.{Table, step}
use Rattle.window.specs.Lists.{xor}
use Rattle.window.specs.Window.{size, at, to}
use Rattle.window.specs.Merging.{step_at}
use Rattle.window.specs.declared.Node.{Node}
use Rattle.window.specs.declared.Stepped.{Stepped}
use Rattle.window.specs.declared.Window.{Window}
use Rattle.shows.specs.Riding.{neighbour, sends_along}

-- nothing changed, and the node is not busy
abbrev pub settled : Node → Stepped
settled n = record { node = n; busy = false }

-- a node that a step leaves as it is, and the bits of its edges too
pub record Quiet (T : Table) (w : Window) (g : ℕ) : Type 0 where
  pub still : step_at T w g ≡ settled (at w g)
  pub bits : (p : ℕ) → (to w T p g).there ≡ true → sends_along (neighbour T w g p) (step T p).back ≡ false

-- whatever the list does not name is quiet
abbrev pub Covers : Table → Window → (ℕ → Bool) → Type 0
Covers T w listed = (g : ℕ) → g < size w → listed g ≡ false → Quiet T w g

-- and so is every node
abbrev pub AllQuiet : Table → Window → Type 0
AllQuiet T w = (g : ℕ) → g < size w → Quiet T w g

-- what the code looks at: busy, or a defect that comes or goes
abbrev pub moved : Table → Window → ℕ → Bool
moved T w g = (step_at T w g).busy || xor (step_at T w g).node.defect (at w g).defect
