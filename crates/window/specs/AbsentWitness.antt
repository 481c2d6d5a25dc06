-- ABSENT ROUNDS BY VALUE, 1 by 2: three sheets of three nodes, of which nodes 1, 4 and 7 are detectors, one below the other. Rounds 0 to 2 are
-- absent. Assumes nothing.
use Rattle.std.specs.Prelude.{ℕ, zero, suc, ◌≡◌, refl, Bool, true, false, List, [], ◌∷◌, get_or, set}
use Rattle.shape.specs.Nodes as nodes
use Rattle.steps.specs.Steps as steps
use Rattle.steps.specs.Steps.{base}
use Rattle.window.specs.Lists as lists
use Rattle.window.specs.Window as window
use Rattle.window.specs.Window.{present}
use Rattle.window.specs.Fresh as fresh
use Rattle.window.specs.Formed as formed
use Rattle.window.specs.Formed.{well_formed}
use Rattle.window.specs.Round as round
use Rattle.window.specs.Grow as grow
use Rattle.window.specs.declared.Mark.{Mark}
use Rattle.window.specs.declared.Mark.TheVariants.{Reset, Root}
use Rattle.window.specs.declared.Stage.{Stage}
use Rattle.window.specs.declared.Stage.TheVariants.{Merging}
use Rattle.window.specs.declared.Node.{Node}
use Rattle.window.specs.declared.Window.{Window}

-- after so many rounds, the first with a defect, and nothing grown
unfoldable pub after : ℕ → Window
after zero = fresh.fresh_window base (record { height = 1; distance = 2; model = 0 })
after (suc zero) = round.rounded base (after zero) (1 ∷ [])
after (suc (suc n)) = round.rounded base (after (suc n)) (0 ∷ [])

-- ONE THING CHANGED in it

abbrev pub node : ℕ → Node → Window → Window
node g n w = record { shape = w.shape; stage = w.stage; next = w.next; nodes = set w.nodes g n; growth = w.growth; correction = w.correction; measured = w.measured }

abbrev pub halves : ℕ → ℕ → Window → Window
halves e n w = record { shape = w.shape; stage = w.stage; next = w.next; nodes = w.nodes; growth = set w.growth e n; correction = w.correction; measured = w.measured }

abbrev flips : ℕ → Window → Window
flips e w = record { shape = w.shape; stage = w.stage; next = w.next; nodes = w.nodes; growth = w.growth; correction = set w.correction e true; measured = w.measured }

abbrev pub stage : Stage → Window → Window
stage x w = record { shape = w.shape; stage = x; next = w.next; nodes = w.nodes; growth = w.growth; correction = w.correction; measured = w.measured }

-- a node by its active, defect and unrooted bits, pointer and mark
abbrev pub with : Bool → Bool → Bool → ℕ → Mark → Node
with a x u p m = record { active = a; defect = x; unrooted = u; pointer = p; mark = m }

abbrev Formed : Window → Type 0
Formed w = well_formed base w ≡ true

abbrev Refused : Window → Type 0
Refused w = well_formed base w ≡ false

-- the halves of three edges after growing: node 1's east, the time edge from node 4 to node 1, and that from node 7 to node 4
abbrev grows : Window → List ℕ
grows w = let g = (grow.grown base w).growth in get_or g 1 0 ∷ get_or g 22 0 ∷ get_or g 25 0 ∷ []

pub record AbsentMet : Type 0 where
  -- no sheet of a fresh window is there, then one more with each round
  pub fresh : present (after 0) ≡ 0
  pub one : present (after 1) ≡ 1
  pub two : present (after 2) ≡ 2
  pub all : present (after 3) ≡ 3
  pub ever : present (after 4) ≡ 3
  -- after one round node 4 is absent: it has its fresh state, mark its own number, 9, in every stage
  pub formed : Formed (after 1)
  pub merging : Formed (stage Merging (after 1))
  pub active : Refused (node 4 (with true false false 0 (Root 9)) (after 1))
  pub defect : Refused (node 4 (with false true false 0 (Root 9)) (after 1))
  pub unrooted : Refused (node 4 (with false false true 0 (Root 9)) (after 1))
  pub points : Refused (node 4 (with false false false 3 (Root 9)) (after 1))
  pub marked : Refused (node 4 (with false false false 0 (Root 8)) (after 1))
  pub reset : Refused (stage Merging (node 4 (with false false false 0 Reset) (after 1)))
  -- its edges, and the one to node 1 above, their zeros
  pub grown : Refused (halves 4 1 (after 1))
  pub corrected : Refused (flips 4 (after 1))
  pub grown-up : Refused (halves 22 1 (after 1))
  pub corrected-up : Refused (flips 22 (after 1))
  -- in a sheet that is there all this may stand
  pub present-active : Formed (node 4 (with true false false 0 (Root 8)) (after 2))
  pub present-edge : Formed (flips 22 (halves 22 1 (after 2)))
  -- no pointer leads down to an absent sheet, from node 1, nor to an absent round that has left, from node 7; to a supplied one that has left it may
  pub down : Refused (node 1 (with false true false 5 (Root 8)) (after 1))
  pub out : Refused (node 7 (with false true false 5 (Root 10)) (after 3))
  pub left : Formed (node 7 (with false false false 5 (Root 10)) (after 4))
  -- nothing grows into an absent sheet
  pub grows-beside : grows (node 1 (with true true false 0 (Root 8)) (after 1)) ≡ (1 ∷ 0 ∷ 0 ∷ [])
  pub grows-up : grows (node 4 (with true true false 0 (Root 9)) (after 2)) ≡ (0 ∷ 1 ∷ 0 ∷ [])

pub absent-met : AbsentMet
unfolding after nodes.index_of nodes.place_at nodes.number_of steps.base steps.across steps.joined steps.near steps.slot lists.from lists.by_place lists.every lists.all window.reach steps.naming fresh.fresh_window formed.pointer_fits formed.node_fits formed.slot_fits_at formed.well_formed round.lowered_number round.top_node round.fallen_node round.fallen_slot round.rounded grow.grown_slot grow.grown_node grow.grown
absent-met =
    record {
      fresh = refl;
      one = refl;
      two = refl;
      all = refl;
      ever = refl;
      formed = refl;
      merging = refl;
      active = refl;
      defect = refl;
      unrooted = refl;
      points = refl;
      marked = refl;
      reset = refl;
      grown = refl;
      corrected = refl;
      grown-up = refl;
      corrected-up = refl;
      present-active = refl;
      present-edge = refl;
      down = refl;
      out = refl;
      left = refl;
      grows-beside = refl;
      grows-up = refl;
    }
