-- THE TWO MODELS as lists of moves. Assumes nothing.
use Rattle.std.specs.Prelude.{ℕ, ◌+◌, Bool, true, false, ◌&&◌, not, List, [], ◌∷◌, ◌++◌, leb, eqb, length}
use Rattle.shape.specs.Choice.{if}
use Rattle.steps.specs.Steps.{Table, base, stay, minus, plus}
use Rattle.steps.specs.declared.Shift.{Shift}
use Rattle.steps.specs.Ranks.{rank}
use Rattle.steps.specs.Moves.{Move, move_at, reverse, unmoved, times}

-- THE CONDITION AS A TEST

abbrev pub step_fits : List Move → ℕ → Bool
step_fits ms x =
    let m = move_at ms x in
    not (unmoved m)
    && leb m.sheet.less (m.sheet.more + 1)
    && leb m.sheet.more (m.sheet.less + 1)
    && eqb (times ms m) 1
    && eqb (times ms (reverse m)) 1

abbrev pub are_steps : List Move → Bool
are_steps ms = eqb (rank (step_fits ms) (length ms)) (length ms)

-- THE MODELS

abbrev pub move : Shift → Shift → Shift → Move
move r c s = record { row = r; column = c; sheet = s }

-- N, W, E, S, D, U; a sheet up is one depth less
unfoldable pub phenomenological : List Move
phenomenological =
    move minus stay stay ∷ move stay minus stay ∷ move stay plus stay ∷ move plus stay stay ∷ move stay stay plus ∷ move stay stay minus ∷ []

-- NU, WD, EU, SD, NWD, SEU
unfoldable pub diagonals : List Move
diagonals =
    move minus stay minus ∷ move stay minus plus ∷ move stay plus minus ∷ move plus stay plus ∷ move minus minus plus ∷ move plus plus minus ∷ []

abbrev pub circuit_level : List Move
circuit_level = phenomenological ++ diagonals

-- model 1's, written out
unfoldable pub circuit : Table
circuit =
    record {
      steps = record { row = minus; column = stay; sheet = stay; back = 4; kind = 1; own = false }
          ∷ record { row = stay; column = minus; sheet = stay; back = 3; kind = 0; own = false }
          ∷ record { row = stay; column = plus; sheet = stay; back = 2; kind = 0; own = true }
          ∷ record { row = plus; column = stay; sheet = stay; back = 1; kind = 1; own = true }
          ∷ record { row = stay; column = stay; sheet = plus; back = 6; kind = 2; own = false }
          ∷ record { row = stay; column = stay; sheet = minus; back = 5; kind = 2; own = true }
          ∷ record { row = minus; column = stay; sheet = minus; back = 10; kind = 3; own = true }
          ∷ record { row = stay; column = minus; sheet = plus; back = 9; kind = 4; own = false }
          ∷ record { row = stay; column = plus; sheet = minus; back = 8; kind = 4; own = true }
          ∷ record { row = plus; column = stay; sheet = plus; back = 7; kind = 3; own = false }
          ∷ record { row = minus; column = minus; sheet = plus; back = 12; kind = 5; own = false }
          ∷ record { row = plus; column = plus; sheet = minus; back = 11; kind = 5; own = true }
          ∷ [];
      kinds = 6;
    }

-- THE TABLE OF A MODEL: model 1's for circuit-level noise, else the one without diagonals
unfoldable pub of_model : ℕ → Table
of_model m = if (eqb m 1) circuit base
