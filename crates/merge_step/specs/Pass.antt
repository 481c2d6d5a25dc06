-- A MERGING STEP OVER A WORK LIST, as the machine's arrays have it before and after. Assumes nothing.
use Rattle.std.specs.Prelude.{ℕ, ◌<◌, ◌≡◌, Bool, List, get_or, length}
use Rattle.flat.specs.Entries.{State, state_of, plane, Long}
use Rattle.flat.specs.Plan.{Plan}
use Rattle.flat.specs.Rule.{stirs}
use Rattle.flat.specs.Step.{sending, busy_in, Passed}
use Rattle.node_step.specs.Words.{stir_in}

-- the arrays are as long as they are made, the words too
pub record AllLong (nodes marks edges words : List ℕ) : Type 0 where
  pub long : Long nodes marks edges
  pub of_words : length words ≡ plane

-- the step is done, it tells whether a listed node was busy, and the words tell which listed nodes stirred
pub record PassLeaves (P : Plan) (st : State) (count : ℕ) (list : ℕ → ℕ) (n : ℕ) (busy : Bool) (nodes marks edges words : List ℕ) : Type 0 where
  pub passed : Passed P st count list n (state_of nodes marks edges)
  pub is-busy : busy ≡ busy_in P st count list
  pub all-long : AllLong nodes marks edges words
  pub stirring : (i : ℕ) → i < count → stir_in (get_or words i 0) ≡ stirs P st (sending P st count list) (list i)
