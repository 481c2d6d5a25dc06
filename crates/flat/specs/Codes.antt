-- HOW THE MACHINE WRITES nodes, marks and edges as numbers. Assumes nothing.
use Rattle.std.specs.Prelude.{ℕ, ◌+◌, ◌*◌, ◌/◌, ◌%◌, Bool, eqb}
use Rattle.shape.specs.Choice.{if}
use Rattle.window.specs.Lists.{bit}
use Rattle.window.specs.declared.Mark.{Mark}
use Rattle.window.specs.declared.Mark.TheVariants.{Reset, Root}
use Rattle.window.specs.declared.Node.{Node}

-- A NODE: active 1, defect 2, unrooted 4, and eight times its pointer

abbrev pub node_code : Bool → Bool → Bool → ℕ → ℕ
node_code active defect unrooted pointer = bit active + 2 * bit defect + 4 * bit unrooted + 8 * pointer

abbrev pub active_of : ℕ → Bool
active_of v = eqb (v % 2) 1

abbrev pub defect_of : ℕ → Bool
defect_of v = eqb (v / 2 % 2) 1

abbrev pub unrooted_of : ℕ → Bool
unrooted_of v = eqb (v / 4 % 2) 1

abbrev pub pointer_of : ℕ → ℕ
pointer_of v = v / 8

-- A MARK: its number, or 65,535 for reset

abbrev pub reset_code : ℕ
reset_code = 65535

abbrev pub mark_of : ℕ → Mark
mark_of v = if (eqb v reset_code) Reset (Root v)

abbrev pub mark_code : Mark → ℕ
mark_code Reset = reset_code
mark_code (Root m) = m

-- a node by its two numbers
abbrev pub node_of : ℕ → ℕ → Node
node_of v m = record { active = active_of v; defect = defect_of v; unrooted = unrooted_of v; pointer = pointer_of v; mark = mark_of m }

-- AN EDGE: its growth, and 4 more if it is corrected; growth 3 stands for no edge

abbrev pub no_edge : ℕ
no_edge = 3

abbrev pub edge_code : ℕ → Bool → ℕ
edge_code growth correction = growth + 4 * bit correction

abbrev pub growth_of : ℕ → ℕ
growth_of v = v % 4

abbrev pub correction_of : ℕ → Bool
correction_of v = eqb (v / 4) 1
