-- What stands in a window: by node, and over a step. Everything is over a table of steps T. Assumes nothing.
use Rattle.std.specs.Prelude.{ℕ, ◌+◌, ◌-◌, ◌*◌, min, Bool, true, false, not, eqb, get_or}
use Rattle.shape.specs.Choice.{if}
use Rattle.shape.specs.Sizes.{sheets_of, boundary, nodes_of, max_nodes}
use Rattle.shape.specs.Nodes.{index_of, place_at}
use Rattle.steps.specs.Steps.{Table, near, slot, At, Nowhere}
use Rattle.shape.specs.declared.Place.{Place}
use Rattle.window.specs.declared.Mark.TheVariants.{Reset, Root}
use Rattle.window.specs.declared.Stage.{Stage}
use Rattle.window.specs.declared.Stage.TheVariants.{Rest, ToGrow, Merging}
use Rattle.window.specs.declared.Node.{Node}
use Rattle.window.specs.declared.Window.{Window}
use Rattle.window.specs.declared.Way.{Way}

-- the slots of the largest shape, with six kinds of edges
abbrev pub max_slots : ℕ
max_slots = 6 * max_nodes

-- the last number that a next round can have
abbrev pub max_next : ℕ
max_next = 4294967295

-- a cluster of its own: mark m, pointer C, and perhaps a defect
abbrev pub alone : ℕ → Bool → Node
alone m x = record { active = false; defect = x; unrooted = false; pointer = 0; mark = Root m }

-- an unused entry: zero, mark the number 0, pointer C
abbrev pub unused : Node
unused = alone 0 false

-- what an array gives past its end
abbrev pub beyond : Node
beyond = record { active = false; defect = false; unrooted = false; pointer = 0; mark = Reset }

abbrev pub is_rest : Stage → Bool
is_rest Rest = true
is_rest ToGrow = false
is_rest Merging = false

abbrev pub is_to_grow : Stage → Bool
is_to_grow Rest = false
is_to_grow ToGrow = true
is_to_grow Merging = false

abbrev pub is_merging : Stage → Bool
is_merging Rest = false
is_merging ToGrow = false
is_merging Merging = true

-- A STEP FROM A PLACE, in a shape whose first k sheets are present

abbrev pub nowhere : Way
nowhere = record { there = false; node = 0; slot = 0; detector = false }

unfoldable pub reach : Table → ℕ → ℕ → ℕ → ℕ → Place → Way
reach T h d k p q =
    elim (near T h d k p q) [
      | At q' ↦ record { there = true; node = index_of h d q'; slot = slot T h d p q; detector = not (boundary d q'.column) }
      | Nowhere ↦ nowhere
    ]

-- Depth j holds round next - 1 - j, and rounds 0 to s - 1 are absent: of the first k sheets, those of supplied rounds. Presence is asked here alone
abbrev pub supplied : ℕ → ℕ → ℕ → ℕ
supplied d next k = min k (next - sheets_of d)

-- the sheets that a pointer may lead to: those of the window, and in stage to grow the one that has just left
abbrev pub led_to : ℕ → Stage → ℕ
led_to d stage = if (is_to_grow stage) (sheets_of d + 1) (sheets_of d)

-- BY NODE, in the internal order

module _ (w : Window) where
  abbrev pub size : ℕ
  size = nodes_of w.shape.height w.shape.distance

  -- the nodes of one sheet
  abbrev pub sheet : ℕ
  sheet = w.shape.height * (w.shape.distance + 1)

  -- the sheets of the window that are there
  abbrev pub present : ℕ
  present = supplied w.shape.distance w.next (sheets_of w.shape.distance)

  -- of the sheets that a pointer may lead to, those of supplied rounds
  abbrev pub pointed : ℕ
  pointed = supplied w.shape.distance w.next (led_to w.shape.distance w.stage)

  abbrev pub at : ℕ → Node
  at g = get_or w.nodes g beyond

  abbrev pub place : ℕ → Place
  place g = place_at w.shape.height w.shape.distance g

  abbrev pub detector : ℕ → Bool
  detector g = not (boundary w.shape.distance (place g).column)

  abbrev pub bottom : ℕ → Bool
  bottom g = eqb ((place g).depth + 1) (sheets_of w.shape.distance)

  -- what the step of pointer p leads to from node g
  abbrev pub to : Table → ℕ → ℕ → Way
  to T p g = reach T w.shape.height w.shape.distance present p (place g)
