-- Steps between nodes, over any table of steps: where they lead, which are along an edge, and the edge's slot. Assumes nothing.
use Rattle.std.specs.Prelude.{ℕ, suc, ◌+◌, ◌-◌, ◌*◌, ◌/◌, ◌%◌, Bool, true, false, ◌&&◌, ◌||◌, not, List, [], ◌∷◌, ltb, leb, eqb, get_or}
use Rattle.shape.specs.Choice.{if}
use Rattle.shape.specs.Sizes.{boundary, nodes_of}
use Rattle.shape.specs.Nodes.{index_of}
use Rattle.shape.specs.declared.Place.{Place}
use Rattle.steps.specs.declared.Shift.{Shift}
use Rattle.steps.specs.declared.Step.{Step}

-- The steps in scan order (pointer p is the pth, from 1), and how many kinds of edge there are
pub record Table : Type 0 where
  pub steps : List Step
  pub kinds : ℕ

abbrev pub stay : Shift
stay = record { less = 0; more = 0 }

abbrev pub minus : Shift
minus = record { less = 1; more = 0 }

abbrev pub plus : Shift
plus = record { less = 0; more = 1 }

abbrev pub north : Step
north = record { row = minus; column = stay; sheet = stay; back = 4; kind = 1; own = false }

abbrev pub west : Step
west = record { row = stay; column = minus; sheet = stay; back = 3; kind = 0; own = false }

abbrev pub east : Step
east = record { row = stay; column = plus; sheet = stay; back = 2; kind = 0; own = true }

abbrev pub south : Step
south = record { row = plus; column = stay; sheet = stay; back = 1; kind = 1; own = true }

abbrev pub down : Step
down = record { row = stay; column = stay; sheet = plus; back = 6; kind = 2; own = false }

abbrev pub up : Step
up = record { row = stay; column = stay; sheet = minus; back = 5; kind = 2; own = true }

-- N, W, E, S, D, U; row, column and time edges
unfoldable pub base : Table
base = record { steps = north ∷ west ∷ east ∷ south ∷ down ∷ up ∷ []; kinds = 3 }

-- the step of a pointer; C, and what is no pointer, stays
abbrev pub here : Step
here = record { row = stay; column = stay; sheet = stay; back = 0; kind = 0; own = true }

abbrev pub step : Table → ℕ → Step
step T p = get_or (here ∷ T.steps) p here

-- the pointer of a step has a D
abbrev pub falls : Table → ℕ → Bool
falls T p = ltb (step T p).sheet.less (step T p).sheet.more

-- where a coordinate goes, and whether that is one below n
abbrev pub goes : Shift → ℕ → ℕ
goes s a = a + s.more - s.less

abbrev pub fits : Shift → ℕ → ℕ → Bool
fits s a n = leb s.less (a + s.more) && ltb (goes s a) n

abbrev pub still : Shift → Bool
still s = eqb s.less s.more

-- the step goes along a row of one sheet, or nowhere at all
abbrev pub along_row : Step → Bool
along_row st = still st.row && still st.sheet

abbrev pub stays : Step → Bool
stays st = along_row st && still st.column

abbrev pub one_apart : Shift → Bool
one_apart s = eqb (s.less + 1) s.more || eqb (s.more + 1) s.less

-- the step leads to the row neighbour, the only one that a boundary node has
abbrev pub beside : Step → Bool
beside st = along_row st && one_apart st.column

-- the place across
unfoldable pub across : Step → Place → Place
across st q = record { depth = goes st.sheet q.depth; row = goes st.row q.row; column = goes st.column q.column }

-- the place is one of the first k sheets
abbrev pub inside_of : ℕ → ℕ → ℕ → Place → Bool
inside_of h d k q = ltb q.depth k && ltb q.row h && leb q.column d

abbrev pub both_detectors : ℕ → Step → Place → Bool
both_detectors d st q = not (boundary d q.column) && not (boundary d (goes st.column q.column))

-- There is an edge from q along the step, of the first k sheets: both ends are inside, and it leads to the row neighbour or is between two detectors
unfoldable pub joined : ℕ → ℕ → ℕ → Step → Place → Bool
joined h d k st q =
    inside_of h d k q
    && fits st.row q.row h
    && fits st.column q.column (d + 1)
    && fits st.sheet q.depth k
    && not (stays st)
    && (beside st || both_detectors d st q)

-- a place, or none
pub data Found : Type 0 where
  At : Place → Found
  Nowhere : Found

-- the place at the other end of the edge of pointer p
unfoldable pub near : Table → ℕ → ℕ → ℕ → ℕ → Place → Found
near T h d k p q = if (joined h d k (step T p) q) (At (across (step T p) q)) Nowhere

-- NAMES OF EDGES

-- the direction in which a node names its edge of a kind
unfoldable pub naming : List Step → ℕ → ℕ → ℕ
naming [] kind p = 0
naming (st ∷ sts) kind p = elim (st.own && eqb st.kind kind) [ true ↦ p | false ↦ naming sts kind (suc p) ]

abbrev pub namer : Table → ℕ → ℕ
namer T kind = naming T.steps kind 1

-- the end that names the edge of pointer p at q
abbrev pub naming_end : Table → ℕ → Place → Place
naming_end T p q = if (step T p).own q (across (step T p) q)

-- SLOTS: kind by kind, and of a kind by the index of the node that names the edge, one of n nodes; and back

abbrev pub slot_in : ℕ → ℕ → ℕ → ℕ
slot_in n kind g = n * kind + g

abbrev pub slot_kind : ℕ → ℕ → ℕ
slot_kind n e = e / n

abbrev pub slot_node : ℕ → ℕ → ℕ
slot_node n e = e % n

-- the slot of the edge of pointer p
unfoldable pub slot : Table → ℕ → ℕ → ℕ → Place → ℕ
slot T h d p q = slot_in (nodes_of h d) (step T p).kind (index_of h d (naming_end T p q))
