-- `fresh::fresh_window` meets its contract. Assumes nothing.
use mathlib.Core.Path.{◌≡◌}
use Prim.Native.Nat.{◌≤◌}
use lib.ListN.{replicate}
use Rattle.shape.specs.Sizes.{max_nodes}
use Rattle.shape.specs.Nodes.{place_at}
use Rattle.window.specs.Lists.{over}
use Rattle.window.specs.Window.{unused}
use Rattle.fresh.proofs.Opened.{numbering}
use Rattle.fresh.proofs.fresh_window.Given as goal

abbrev pub invariant-loop-g : goal.invariant-loop-g
invariant-loop-g l =
    (1 ≤ l.shape.height → l.place ≡ place_at l.shape.height l.shape.distance l.g) × (l.nodes ≡ over l.g (numbering l.shape) (replicate max_nodes unused))
