-- WELL-FORMED WINDOWS, as a test. Assumes nothing.
use Rattle.std.specs.Prelude.{ℕ, ◌+◌, ◌*◌, Bool, ◌&&◌, ◌||◌, not, false, List, ltb, leb, eqb, get_or, drop}
use Rattle.shape.specs.Choice.{if}
use Rattle.shape.specs.Nodes.{number_of}
use Rattle.shape.specs.Sizes.{sheets_of, boundary, in_range, model_ok, nodes_in, detectors_of}
use Rattle.steps.specs.Steps.{Table, namer, slot_in}
use Rattle.shape.specs.declared.Place.{Place}
use Rattle.window.specs.Lists.{every, all}
use Rattle.window.specs.Window.{is_merging, reach, size, present, pointed, at, place}
use Rattle.window.specs.declared.Mark.{Mark}
use Rattle.window.specs.declared.Mark.TheVariants.{Reset, Root}
use Rattle.window.specs.declared.Stage.{Stage}
use Rattle.window.specs.declared.Node.{Node}
use Rattle.window.specs.declared.Window.{Window}

-- marks below h(d+1)(s+1), reset only in stage merging
abbrev pub mark_fits : Stage → ℕ → Mark → Bool
mark_fits stage numbers Reset = is_merging stage
mark_fits stage numbers (Root m) = ltb m numbers

abbrev pub is_number : ℕ → Mark → Bool
is_number own Reset = false
is_number own (Root m) = eqb m own

-- the fresh state of a node, its own number given
abbrev pub is_fresh : ℕ → Node → Bool
is_fresh own n = not n.active && not n.defect && not n.unrooted && eqb n.pointer 0 && is_number own n.mark

-- unused entries zero: mark the number 0, pointer C
abbrev pub unused_node : Node → Bool
unused_node n = is_fresh 0 n

-- pointers along edges between the first k sheets; in stage to grow the sheet that has left is one of them, so that a bottom detector's may have a D
unfoldable pub pointer_fits : Table → ℕ → ℕ → ℕ → Place → ℕ → Bool
pointer_fits T h d k q p = eqb p 0 || (reach T h d k p q).there

-- no defect on a boundary
abbrev pub defect_fits : ℕ → Place → Bool → Bool
defect_fits d q defect = not (boundary d q.column && defect)

-- so many sheets are there, and to so many pointers may lead; an absent node keeps its fresh state
unfoldable pub node_fits : Table → Stage → ℕ → ℕ → ℕ → ℕ → Place → Node → Bool
node_fits T stage h d there led q n =
    if (ltb q.depth there)
    (mark_fits stage (nodes_in h d (sheets_of d + 1)) n.mark && pointer_fits T h d led q n.pointer && defect_fits d q n.defect)
    (is_fresh (number_of h d q) n)

abbrev pub is_empty : ℕ → Bool
is_empty halves = eqb halves 0

-- growth at most 2; a slot without an edge is unused
abbrev pub slot_fits : Bool → ℕ → Bool → Bool
slot_fits there halves correction = leb halves 2 && (there || is_empty halves && not correction)

-- the slot of the edge of a kind that node g, one of n, names at a place
abbrev pub slot_by : Table → ℕ → ℕ → ℕ → ℕ → Place → ℕ → List ℕ → List Bool → ℕ → Bool
slot_by T h d k n q g growth correction kind =
    let e = slot_in n kind g in
    slot_fits (reach T h d k (namer T kind) q).there (get_or growth e 0) (get_or correction e false)

module _ (T : Table) (w : Window) where
  abbrev pub node_fits_at : ℕ → Bool
  node_fits_at g = node_fits T w.stage w.shape.height w.shape.distance (present w) (pointed w) (place w g) (at w g)

  -- node g's own edge of a kind
  unfoldable pub slot_fits_at : ℕ → ℕ → Bool
  slot_fits_at g kind = slot_by T w.shape.height w.shape.distance (present w) (size w) (place w g) g w.growth w.correction kind

  unfoldable pub well_formed : Bool
  well_formed =
      in_range w.shape.height w.shape.distance
      && model_ok w.shape.model
      && leb (sheets_of w.shape.distance) w.next
      && every (size w) node_fits_at
      && every (size w) (λ g. every T.kinds (slot_fits_at g))
      && all unused_node (drop (size w) w.nodes)
      && all is_empty (drop (T.kinds * size w) w.growth)
      && all not (drop (T.kinds * size w) w.correction)
      && all not (drop (detectors_of w.shape.height w.shape.distance) w.measured)
