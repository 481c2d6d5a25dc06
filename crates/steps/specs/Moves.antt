-- TABLES FROM MOVES: a table of steps is a list of moves in scan order, and no more. Which end names an edge, the kinds of edges and the
-- steps back follow from the list. Assumes nothing.
use Rattle.std.specs.Prelude.{ℕ, ◌+◌, ◌≤◌, ◌<◌, ◌≡◌, Bool, false, ◌&&◌, List, ltb, eqb, length, get_or}
use Rattle.shape.specs.Choice.{if}
use Rattle.steps.specs.Steps.{Table, still, stay}
use Rattle.steps.specs.Proper.{swap}
use Rattle.steps.specs.declared.Shift.{Shift}
use Rattle.steps.specs.declared.Step.{Step}
use Rattle.steps.specs.ByPlace.{from}
use Rattle.steps.specs.Ranks.{rank, pick}

-- MOVES

pub record Move : Type 0 where
  pub row : Shift
  pub column : Shift
  pub sheet : Shift

abbrev pub none : Move
none = record { row = stay; column = stay; sheet = stay }

abbrev pub move_at : List Move → ℕ → Move
move_at ms x = get_or ms x none

abbrev pub reverse : Move → Move
reverse m = record { row = swap m.row; column = swap m.column; sheet = swap m.sheet }

abbrev pub same_shift : Shift → Shift → Bool
same_shift a b = eqb a.less b.less && eqb a.more b.more

abbrev pub same_move : Move → Move → Bool
same_move a b = same_shift a.row b.row && same_shift a.column b.column && same_shift a.sheet b.sheet

-- The end that names an edge is the lower one; in one sheet the north one, in one row the west one: the step from there goes up, else south, else east
unfoldable pub names : Move → Bool
names m =
    if (still m.sheet)
    (if (still m.row) (ltb m.column.less m.column.more) (ltb m.row.less m.row.more))
    (ltb m.sheet.more m.sheet.less)

abbrev pub unmoved : Move → Bool
unmoved m = still m.row && still m.sheet && still m.column

-- THE TABLE

module _ (ms : List Move) where
  -- the place of the opposite
  unfoldable pub opposite : ℕ → ℕ
  opposite x = pick (λ y. same_move (move_at ms y) (reverse (move_at ms x))) (length ms) 0

  abbrev pub owned : ℕ → Bool
  owned x = names (move_at ms x)

  -- the kinds are the steps that name their edge, in scan order
  unfoldable pub kind_at : ℕ → ℕ
  kind_at x = rank owned (if (owned x) x (opposite x))

  unfoldable pub step_at : ℕ → Step
  step_at x =
      record {
        row = (move_at ms x).row;
        column = (move_at ms x).column;
        sheet = (move_at ms x).sheet;
        back = opposite x + 1;
        kind = kind_at x;
        own = owned x;
      }

unfoldable pub table_of : List Move → Table
table_of ms = record { steps = from 0 (length ms) (step_at ms); kinds = rank (owned ms) (length ms) }

-- WHAT IS ASSUMED: distinct non-zero steps, at most one sheet up or down, in which each has its opposite

-- how often a move stands in the list
abbrev pub times : List Move → Move → ℕ
times ms m = rank (λ y. same_move (move_at ms y) m) (length ms)

pub record Steps (ms : List Move) : Type 0 where
  pub moves : (x : ℕ) → x < length ms → unmoved (move_at ms x) ≡ false
  pub rise : (x : ℕ) → x < length ms → (move_at ms x).sheet.less ≤ (move_at ms x).sheet.more + 1
  pub fall : (x : ℕ) → x < length ms → (move_at ms x).sheet.more ≤ (move_at ms x).sheet.less + 1
  pub distinct : (x : ℕ) → x < length ms → times ms (move_at ms x) ≡ 1
  pub opposites : (x : ℕ) → x < length ms → times ms (reverse (move_at ms x)) ≡ 1
