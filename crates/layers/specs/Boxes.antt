-- A LAYER'S NUMBERS IN CLOSED FORM, for any table: the edges of a kind fill a rectangle of rows and columns. Assumes nothing.
use Prim.Native.Nat.{ℕ, zero, suc, ◌+◌, ◌-◌, ◌*◌}
use Rattle.std.specs.Prelude.{Bool, ◌&&◌, ltb, leb}
use Rattle.shape.specs.Choice.{if}
use Rattle.steps.specs.Steps.{Table, step, namer, beside}
use Rattle.steps.specs.declared.Shift.{Shift}
use Rattle.steps.specs.declared.Step.{Step}

-- THE RECTANGLE OF A STEP

-- a shift stays within n entries from the entries first to before end
abbrev pub first : Shift → ℕ
first s = s.less - s.more

abbrev pub end : Shift → ℕ → ℕ
end s n = n - (s.more - s.less)

-- rows of the sheet; columns 0 to d to the row neighbour, else the detectors' columns 1 to d - 1
abbrev pub row_first : Step → ℕ
row_first st = first st.row

abbrev pub row_end : ℕ → Step → ℕ
row_end h st = end st.row h

abbrev pub column_first : Step → ℕ
column_first st = if (beside st) (first st.column) (1 + first st.column)

abbrev pub column_end : ℕ → Step → ℕ
column_end d st = if (beside st) (end st.column (d + 1)) (end st.column d)

abbrev pub rows : ℕ → Step → ℕ
rows h st = row_end h st - row_first st

abbrev pub columns : ℕ → Step → ℕ
columns d st = column_end d st - column_first st

abbrev pub area : ℕ → ℕ → Step → ℕ
area h d st = rows h st * columns d st

abbrev pub within : ℕ → ℕ → ℕ → Bool
within a b x = leb a x && ltb x b

abbrev pub boxed : ℕ → ℕ → Step → ℕ → ℕ → Bool
boxed h d st r c = within (row_first st) (row_end h st) r && within (column_first st) (column_end d st) c

-- the step that names the edges of a kind
abbrev pub named : Table → ℕ → Step
named T k = step T (namer T k)

-- the edges of the kinds before k
unfoldable pub areas : Table → ℕ → ℕ → ℕ → ℕ
areas T h d zero = 0
areas T h d (suc k) = areas T h d k + area h d (named T k)
