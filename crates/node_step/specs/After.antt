-- THE NODE AFTER A STEP, as the word has it. Assumes nothing.
use Rattle.std.specs.Prelude.{ℕ, ◌≡◌, Bool, ◌&&◌, ◌||◌, not, eqb}
use Rattle.window.specs.Lists.{xor}
use Rattle.flat.specs.Codes.{node_code, active_of, defect_of, unrooted_of, pointer_of, reset_code}
use Rattle.flat.specs.Entries.{State}
use Rattle.flat.specs.Plan.{Plan}
use Rattle.flat.specs.Rule.{flood_of, active_after, defect_after, unrooted_after, stirs}
use Rattle.node_step.specs.Words.{Holds}

-- busy by the number v and the mark m before, and the mark and whether it is active after
abbrev pub busy_by : ℕ → ℕ → ℕ → Bool → Bool
busy_by v m mark lit = not (eqb mark m) || (defect_of v && not (eqb (pointer_of v) 0)) || xor lit (active_of v)

pub record Joined (v m mark pointer : ℕ) (lit left : Bool) (w : ℕ) (busy : Bool) : Type 0 where
  pub word : Holds mark (node_code lit left (unrooted_of v || eqb m reset_code) pointer) (busy_by v m mark lit || xor left (defect_of v)) w
  pub is-busy : busy ≡ busy_by v m mark lit

module _ (P : Plan) (st : State) where
  -- the number of the node
  abbrev pub number_after : Bool → ℕ → ℕ
  number_after sending x = node_code (active_after P st x) (defect_after P st sending x) (unrooted_after P st x) (flood_of P st x).pointer

  abbrev pub Tells : Bool → ℕ → ℕ → Type 0
  Tells sending x w = Holds (flood_of P st x).mark (number_after sending x) (stirs P st sending x) w
