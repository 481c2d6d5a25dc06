-- WHAT THE TABLE HOLDS, for any table of steps. Assumes nothing.
use Rattle.std.specs.Prelude.{ℕ, ◌+◌, ◌-◌, ◌*◌, ◌/◌, ◌%◌, Bool, ◌&&◌, List, leb, ltb, eqb, length}
use Rattle.shape.specs.Choice.{if}
use Rattle.shape.specs.Sizes.{nodes_of}
use Rattle.shape.specs.Nodes.{boundary_nodes}
use Rattle.steps.specs.Steps.{Table, step, falls, namer}
use Rattle.steps.specs.Ranks.{bit}
use Rattle.steps.specs.Offsets.{back_by, on_by}
use Rattle.steps.specs.declared.Shift.{Shift}
use Rattle.steps.specs.declared.Step.{Step}
use Rattle.layers.specs.Boxes.{row_first, row_end, column_first, column_end, rows, columns, within, named, areas}
use Rattle.flat.specs.Codes.{no_edge}
use Rattle.flat.specs.Entries.{margin, plane, cell}
use Rattle.flat.specs.declared.Sizes.{Sizes}
use Rattle.plan.specs.Passes.{blocks}
use Rattle.plan.specs.declared.Area.{Area}

abbrev pub sizes_of : Table → ℕ → ℕ → Sizes
sizes_of T h d = record { dirs = length T.steps; kinds = T.kinds; nodes = nodes_of h d; sheet = h * (d + 1); bound = boundary_nodes h d }

-- STEPS: by one at most, of one of six kinds and twelve directions

abbrev pub nearby : Shift → Bool
nearby s = leb s.less 1 && leb s.more 1

abbrev pub small : Step → Bool
small st = nearby st.row && nearby st.column && nearby st.sheet && leb st.kind 5 && leb st.back 12

abbrev pub off_by : ℕ → ℕ → Step → ℕ
off_by h d st = margin + on_by h d st - back_by h d st

abbrev pub slot_by : ℕ → ℕ → Step → ℕ
slot_by h d st = cell st.kind (if st.own margin (off_by h d st))

abbrev pub rises_by : Step → Bool
rises_by st = ltb st.sheet.more st.sheet.less

-- THE FIRST SIX PARTS, of 32 entries each: offsets, slots and ways back by direction, the naming direction by kind, whether a pointer falls, and whether a kind rises
unfoldable pub head_at : Table → ℕ → ℕ → ℕ → ℕ → ℕ
head_at T h d part k =
    if (eqb part 0) (off_by h d (step T (k + 1)))
    (if (eqb part 1) (slot_by h d (step T (k + 1)))
    (if (eqb part 2) (step T (k + 1)).back
    (if (eqb part 3) (namer T k - 1)
    (if (eqb part 4) (bit (falls T k)) (bit (rises_by (named T k)))))))

abbrev pub head_of : Table → ℕ → ℕ → ℕ → ℕ
head_of T h d i = head_at T h d (i / 32) (i % 32)

-- NUMBERS: two boundary nodes to a row, and its detectors
abbrev pub row_number : ℕ → ℕ → ℕ → ℕ → ℕ
row_number d low high c = if (eqb c 0) low (if (eqb c d) (low + 1) (high + c))

-- those of row r, counted through all sheets
abbrev pub row_of : ℕ → ℕ → ℕ → ℕ → ℕ
row_of h d r = row_number d (r * 2) (boundary_nodes h d - 1 + r * (d - 1))

-- EDGES

abbrev pub area_of : ℕ → ℕ → Step → Area
area_of h d st = record { top = row_first st; bottom = row_end h st; left = column_first st; right = column_end d st }

abbrev pub fresh_by : Bool → ℕ
fresh_by there = if there 0 no_edge

-- inside the rectangle
abbrev pub fresh_in : Area → ℕ → ℕ → ℕ
fresh_in a r c = fresh_by (within a.top a.bottom r && within a.left a.right c)

abbrev pub fresh_on : Table → ℕ → ℕ → ℕ → List ℕ → List ℕ
fresh_on T h d kind l = blocks (plane + 240 * kind) (d + 1) (fresh_in (area_of h d (named T kind))) (d + 1) h l

-- the cells of the edges of the bottom layer, whose first entry is known
abbrev pub place_row : ℕ → ℕ → Step → ℕ → ℕ → ℕ → ℕ
place_row d bottom st kind r c = plane * kind + bottom + row_first st * (d + 1) + column_first st + r * (d + 1) + c

abbrev pub places_on : Table → ℕ → ℕ → ℕ → ℕ → List ℕ → List ℕ
places_on T h d bottom kind l =
    blocks (6144 + areas T h d kind) (columns d (named T kind)) (place_row d bottom (named T kind) kind) (columns d (named T kind)) (rows h (named T kind)) l
