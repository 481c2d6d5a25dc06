-- ROUND: a new sheet on top, all else moves down one sheet, and the bottom layer leaves. Assumes nothing.
use Rattle.std.specs.Prelude.{ℕ, ◌+◌, ◌-◌, ◌*◌, ◌/◌, ◌%◌, Bool, false, ◌&&◌, ◌||◌, not, List, ltb, eqb, get_or}
use Rattle.shape.specs.Choice.{if}
use Rattle.shape.specs.Sizes.{sheets_of, boundary, detectors_of, nodes_of}
use Rattle.shape.specs.Nodes.{index_of, number_of, boundary_nodes}
use Rattle.steps.specs.Steps.{Table, step, across, namer, slot_in, slot_kind, slot_node}
use Rattle.layers.specs.Layers.{node_of, edge_of, layer_edges}
use Rattle.layers.specs.declared.Edge.{Edge}
use Rattle.shape.specs.declared.Place.{Place}
use Rattle.window.specs.Lists.{by_place, over, bit}
use Rattle.window.specs.Window.{alone, size, sheet, at, place}
use Rattle.window.specs.declared.Mark.{Mark}
use Rattle.window.specs.declared.Mark.TheVariants.{Reset, Root}
use Rattle.window.specs.declared.Stage.TheVariants.{ToGrow}
use Rattle.window.specs.declared.Node.{Node}
use Rattle.window.specs.declared.Window.{Window}

-- WHAT LEAVES

-- the slot of a layer's edge, in the sheet at a depth
abbrev pub edge_slot : ℕ → ℕ → ℕ → Edge → ℕ
edge_slot h d depth e = slot_in (nodes_of h d) e.kind (index_of h d (node_of depth e))

-- the ith detector of the sheet at a depth, row by row
abbrev pub detector_at : ℕ → ℕ → ℕ → Place
detector_at d depth i = record { depth = depth; row = i / (d - 1); column = i % (d - 1) + 1 }

-- the bottom layer's correction bits go to the edge buffer, one byte an edge
unfoldable pub committed_edges : Table → Window → List ℕ
committed_edges T w =
    let h = w.shape.height in
    let d = w.shape.distance in
    by_place (layer_edges T h d) (λ i. bit (get_or w.correction (edge_slot h d (sheets_of d - 1) (edge_of T h d i)) false))

-- the bottom sheet's defects go to the escape buffer, one byte a detector
unfoldable pub escaped_defects : Window → List ℕ
escaped_defects w =
    let h = w.shape.height in
    let d = w.shape.distance in
    by_place (detectors_of h d) (λ i. bit (at w (index_of h d (detector_at d (sheets_of d - 1) i))).defect)

-- WHAT MOVES DOWN

-- marks move to the node below, +2h boundary, +h(d-1) detector; a mark already in the ghost sheet stays
unfoldable pub lowered_number : ℕ → ℕ → ℕ → ℕ
lowered_number h d m =
    let s = sheets_of d in
    if (ltb m (2 * h * s)) (m + 2 * h)
    (if (ltb m (boundary_nodes h d)) m
    (if (ltb m (boundary_nodes h d + h * (d - 1) * s)) (m + h * (d - 1)) m))

abbrev pub lowered : ℕ → ℕ → Mark → Mark
lowered h d Reset = Reset
lowered h d (Root m) = Root (lowered_number h d m)

-- all unrooted bits become false
abbrev pub sunk : ℕ → ℕ → Node → Node
sunk h d n = record { active = n.active; defect = n.defect; unrooted = false; pointer = n.pointer; mark = lowered h d n.mark }

-- the new top sheet is fresh but for the defects, one byte a detector, row by row
unfoldable pub top_node : ℕ → ℕ → List ℕ → Place → Node
top_node h d defects q =
    alone (number_of h d q) (not (boundary d q.column) && eqb (get_or defects (q.row * (d - 1) + (q.column - 1)) 0) 1)

unfoldable pub fallen_node : Window → List ℕ → ℕ → Node
fallen_node w defects g =
    if (ltb g (sheet w)) (top_node w.shape.height w.shape.distance defects (place w g))
    (sunk w.shape.height w.shape.distance (at w (g - sheet w)))

-- an edge of the new top sheet: one of its own, or a down edge
abbrev pub at_top : Table → Window → ℕ → ℕ → Bool
at_top T w g p = eqb (place w g).depth 0 || eqb (across (step T p) (place w g)).depth 0

-- what stands in a slot: nothing where the edge is new, else what stood one sheet above
unfoldable pub fallen_slot {ℓ} : {A : Type ℓ} → Table → Window → A → List A → ℕ → A
fallen_slot T w zero old e =
    if (at_top T w (slot_node (size w) e) (namer T (slot_kind (size w) e))) zero (get_or old (e - sheet w) zero)

-- the last measured sheet stays
unfoldable pub rounded : Table → Window → List ℕ → Window
rounded T w defects =
    record {
      shape = w.shape;
      stage = ToGrow;
      next = w.next + 1;
      nodes = over (size w) (fallen_node w defects) w.nodes;
      growth = over (T.kinds * size w) (fallen_slot T w 0 w.growth) w.growth;
      correction = over (T.kinds * size w) (fallen_slot T w false w.correction) w.correction;
      measured = w.measured;
    }
