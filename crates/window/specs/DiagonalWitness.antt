-- DIAGONALS BY VALUE, 1 by 3 of model 1: three sheets of four nodes, of which 1 and 2, 5 and 6, 9 and 10 are detectors, one pair below the other.
-- Of the diagonals only those between a detector and the one to its east in the sheet above are there, EU and back WD; all others are left out.
-- Assumes nothing.
use Rattle.std.specs.Prelude.{ℕ, zero, suc, ◌≡◌, refl, true, false, List, [], ◌∷◌, map, get_or}
use Rattle.shape.specs.Nodes as nodes
use Rattle.steps.specs.Steps as steps
use Rattle.steps.specs.Models as models
use Rattle.steps.specs.Models.{circuit}
use Rattle.window.specs.Lists as lists
use Rattle.window.specs.Window as window
use Rattle.window.specs.Window.{at}
use Rattle.window.specs.Fresh as fresh
use Rattle.window.specs.Formed as formed
use Rattle.window.specs.Formed.{well_formed}
use Rattle.window.specs.Round as round
use Rattle.window.specs.Grow as grow
use Rattle.window.specs.AbsentWitness.{node, halves, stage, with}
use Rattle.window.specs.declared.Mark.TheVariants.{Reset, Root}
use Rattle.window.specs.declared.Stage.TheVariants.{Rest}
use Rattle.window.specs.declared.Window.{Window}

-- after so many empty rounds, and nothing grown
unfoldable pub after : ℕ → Window
after zero = fresh.fresh_window circuit (record { height = 1; distance = 3; model = 1 })
after (suc n) = round.rounded circuit (after n) (0 ∷ 0 ∷ [])

abbrev Formed : Window → Type 0
Formed w = well_formed circuit w ≡ true

abbrev Refused : Window → Type 0
Refused w = well_formed circuit w ≡ false

-- node g, whose own number is m, with pointer p
abbrev points : ℕ → ℕ → ℕ → Window → Window
points g m p w = node g (with false false false p (Root m)) w

abbrev named : ℕ → Window → Window
named m w = record { shape = record { height = 1; distance = 3; model = m }; stage = w.stage; next = w.next; nodes = w.nodes; growth = w.growth; correction = w.correction; measured = w.measured }

-- what stands in some slots after growing
abbrev grows : List ℕ → Window → List ℕ
grows slots w = let g = (grow.grown circuit w).growth in map (λ (e : ℕ). get_or g e 0) slots

pub record DiagonalsMet : Type 0 where
  pub whole : Formed (after 4)
  -- a window of another model than 0 and 1
  pub no-model : Refused (named 2 (after 4))
  -- from node 6 down and west to node 9, from node 5 up and east to node 2
  pub west-down : Formed (points 6 11 8 (after 4))
  pub east-up : Formed (points 5 10 9 (after 4))
  -- not to a boundary node, not to another row, and no further direction
  pub to-boundary : Refused (points 6 11 9 (after 4))
  pub from-boundary : Refused (points 4 2 9 (after 4))
  pub north-up : Refused (points 5 10 7 (after 4))
  pub south-down : Refused (points 5 10 10 (after 4))
  pub north-west-down : Refused (points 6 11 11 (after 4))
  pub south-east-up : Refused (points 5 10 12 (after 4))
  pub none_more : Refused (points 5 10 13 (after 4))
  -- out at the bottom in stage to grow, unless the edge is left out, or the round that has left is absent
  pub out : Formed (points 10 13 8 (after 4))
  pub out-down : Formed (points 10 13 5 (after 4))
  pub out-to-boundary : Refused (points 9 12 8 (after 4))
  pub out-south : Refused (points 10 13 10 (after 4))
  pub out-north-west : Refused (points 10 13 11 (after 4))
  pub out-absent : Refused (points 10 13 8 (after 3))
  pub out-at-rest : Refused (stage Rest (points 10 13 8 (after 4)))
  -- growth of the edge from node 5 to node 2, and in the slots of edges that are left out
  pub grown : Formed (halves 53 1 (after 4))
  pub grown-to-boundary : Refused (halves 54 1 (after 4))
  pub grown-from-boundary : Refused (halves 52 1 (after 4))
  pub grown-from-the-top : Refused (halves 49 1 (after 4))
  pub grown-north : Refused (halves 41 1 (after 4))
  pub grown-south-east : Refused (halves 65 1 (after 4))
  -- node 6 is active: the edges to its west, its east, up, down, and down and west; not its NU, EU and SEU, which are left out
  pub growing : grows (5 ∷ 6 ∷ 30 ∷ 34 ∷ 57 ∷ 42 ∷ 54 ∷ 66 ∷ []) (node 6 (with true true false 0 (Root 11)) (after 4)) ≡ (1 ∷ 1 ∷ 1 ∷ 1 ∷ 1 ∷ 0 ∷ 0 ∷ 0 ∷ [])
  -- WD out at the bottom begins unrooting
  pub unrooting : at (grow.grown circuit (points 10 13 8 (after 4))) 10 ≡ with false false false 0 Reset

pub diagonals-met : DiagonalsMet
unfolding after nodes.index_of nodes.place_at nodes.number_of models.circuit steps.across steps.joined steps.near steps.slot lists.from lists.by_place lists.every lists.all window.reach steps.naming fresh.fresh_window formed.pointer_fits formed.node_fits formed.slot_fits_at formed.well_formed round.lowered_number round.top_node round.fallen_node round.fallen_slot round.rounded grow.grown_slot grow.grown_node grow.grown
diagonals-met =
    record {
      whole = refl;
      no-model = refl;
      west-down = refl;
      east-up = refl;
      to-boundary = refl;
      from-boundary = refl;
      north-up = refl;
      south-down = refl;
      north-west-down = refl;
      south-east-up = refl;
      none_more = refl;
      out = refl;
      out-down = refl;
      out-to-boundary = refl;
      out-south = refl;
      out-north-west = refl;
      out-absent = refl;
      out-at-rest = refl;
      grown = refl;
      grown-to-boundary = refl;
      grown-from-boundary = refl;
      grown-from-the-top = refl;
      grown-north = refl;
      grown-south-east = refl;
      growing = refl;
      unrooting = refl;
    }
