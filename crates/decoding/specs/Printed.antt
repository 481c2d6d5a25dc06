-- THE PRINTED LINES of document 01 that are to be proved, with S-4's model behind the distance, on the rules themselves; a session that shows absent rounds,
-- and one of model 1. Assumes nothing.
use Rattle.std.specs.Prelude.{ℕ, ◌≡◌, true, false, List, [], ◌∷◌}
use Rattle.number.specs.Number as number
use Rattle.list.specs.Sheet as list
use Rattle.shape.specs.Nodes as nodes
use Rattle.steps.specs.Ranks as ranks
use Rattle.steps.specs.Steps as steps
use Rattle.steps.specs.Steps.{base}
use Rattle.steps.specs.Models as models
use Rattle.layers.specs.Layers as layers
use Rattle.record.specs.Records as records
use Rattle.trip.specs.Printed as stream
use Rattle.window.specs.Lists as lists
use Rattle.window.specs.Window as window
use Rattle.window.specs.Fresh as fresh
use Rattle.window.specs.Formed as formed
use Rattle.window.specs.Round as round
use Rattle.window.specs.Grow as grow
use Rattle.window.specs.Merging as merging
use Rattle.window.specs.Run as run
use Rattle.window.specs.Calls as calls
use Rattle.window.specs.declared.Window.{Window}
use Rattle.decoding.specs.Decoding.{Decoded, finished, decoded, rounds_from, record_at, turn_at}

-- all the rules, for `unfolding`
unfoldable pub opened : ℕ
unfolding list.ones list.skips list.listed list.entries_at list.list_at list.are_bits number.written number.number_at number.groups number.group_at nodes.index_of nodes.place_at nodes.number_of nodes.place_of steps.base models.circuit models.of_model steps.across steps.joined steps.near steps.slot steps.naming ranks.rank ranks.pick layers.spans layers.edge_of layers.layer_edges records.header records.header_at records.result lists.from lists.by_place lists.every lists.any lists.all window.reach fresh.fresh_window formed.pointer_fits formed.node_fits formed.slot_fits_at formed.well_formed round.committed_edges round.escaped_defects round.lowered_number round.top_node round.fallen_node round.fallen_slot round.rounded grow.grown_slot grow.grown_node grow.grown merging.sees merging.synced_active merging.arrivals merging.scan merging.floods merging.stepped merging.seen merging.step_at merging.flipped_slot merging.merged run.steps_from run.ran calls.round_call calls.run_call turn_at record_at rounds_from decoded
opened = 0

-- into a buffer with room enough
abbrev room : ℕ
room = 65536

abbrev pub gives : List ℕ → Decoded
gives bytes = record { output = bytes; line = finished }

pub record Printed : Type 0 where
  -- 1 by 3, a defect at detector 0, three empty rounds: the fourth commits edge 0
  pub first : decoded (0x01 ∷ 0x03 ∷ 0x00 ∷ 0x01 ∷ 0x00 ∷ 0x00 ∷ 0x00 ∷ 0x00 ∷ []) room
      ≡ gives (0x01 ∷ 0x03 ∷ 0x00 ∷ 0x00 ∷ 0x00 ∷ 0x02 ∷ 0x00 ∷ 0x00 ∷ 0x01 ∷ 0x00 ∷ 0x00 ∷ 0x04 ∷ 0x01 ∷ 0x00 ∷ 0x00 ∷ 0x02 ∷ [])
  -- both detectors
  pub second : decoded (0x01 ∷ 0x03 ∷ 0x00 ∷ 0x02 ∷ 0x00 ∷ 0x00 ∷ 0x00 ∷ 0x00 ∷ 0x00 ∷ []) room
      ≡ gives (0x01 ∷ 0x03 ∷ 0x00 ∷ 0x00 ∷ 0x00 ∷ 0x02 ∷ 0x00 ∷ 0x00 ∷ 0x05 ∷ 0x00 ∷ 0x00 ∷ 0x01 ∷ 0x01 ∷ 0x01 ∷ 0x00 ∷ 0x01 ∷ [])
  -- 1 by 2, one defect: west and east tie, west (edge 0) is committed
  pub tie : decoded (0x01 ∷ 0x02 ∷ 0x00 ∷ 0x01 ∷ 0x00 ∷ 0x00 ∷ 0x00 ∷ 0x00 ∷ []) room
      ≡ gives (0x01 ∷ 0x02 ∷ 0x00 ∷ 0x00 ∷ 0x00 ∷ 0x02 ∷ 0x00 ∷ 0x00 ∷ 0x01 ∷ 0x00 ∷ 0x00 ∷ 0x03 ∷ 0x01 ∷ 0x00 ∷ 0x00 ∷ 0x02 ∷ [])
  -- Not printed there: 1 by 4, a defect at detector 2, five empty rounds. Nothing grows into the rounds before the first, or the third run would
  -- make 4 steps
  pub absent : decoded (0x01 ∷ 0x04 ∷ 0x00 ∷ 0x01 ∷ 0x02 ∷ 0x00 ∷ 0x00 ∷ 0x00 ∷ 0x00 ∷ 0x00 ∷ []) room
      ≡ gives (0x01 ∷ 0x04 ∷ 0x00 ∷ 0x00 ∷ 0x00 ∷ 0x02 ∷ 0x00 ∷ 0x00 ∷ 0x01 ∷ 0x00 ∷ 0x00 ∷ 0x03 ∷ 0x00 ∷ 0x00 ∷ 0x01 ∷ 0x00 ∷ 0x00 ∷ 0x01 ∷ 0x01 ∷ 0x03 ∷ 0x00 ∷ 0x02 ∷ [])
  -- Nor is this one: 2 by 3 of model 1, a defect at the first detector and, a round later, at the last one, two empty rounds; the fourth commits edge 16, a
  -- diagonal SEU
  pub diagonal : decoded (0x02 ∷ 0x03 ∷ 0x01 ∷ 0x01 ∷ 0x00 ∷ 0x01 ∷ 0x03 ∷ 0x00 ∷ 0x00 ∷ []) room
      ≡ gives (0x02 ∷ 0x03 ∷ 0x01 ∷ 0x00 ∷ 0x00 ∷ 0x02 ∷ 0x00 ∷ 0x00 ∷ 0x02 ∷ 0x00 ∷ 0x00 ∷ 0x05 ∷ 0x01 ∷ 0x10 ∷ 0x00 ∷ 0x02 ∷ [])
  -- the lines of shapes, numbers and refused headers
  pub streams : stream.Printed

-- FIRST SESSION, third round by run: budget 4 answers rest 4, budget 3 spent 3, and one step more then reaches rest

abbrev next_round : Window → List ℕ → Window
next_round w bytes = (run.ran base 65536 (round.rounded base w bytes)).window

unfoldable pub third : Window
third = round.rounded base (next_round (next_round (fresh.fresh_window base (record { height = 1; distance = 3; model = 0 })) (1 ∷ 0 ∷ [])) (0 ∷ 0 ∷ [])) (0 ∷ 0 ∷ [])

pub record Budgets : Type 0 where
  pub rest : (run.ran base 4 third).rest ≡ true
  pub rest-steps : (run.ran base 4 third).count ≡ 4
  pub spent : (run.ran base 3 third).rest ≡ false
  pub spent-steps : (run.ran base 3 third).count ≡ 3
  pub one_more : (run.ran base 1 (run.ran base 3 third).window).rest ≡ true
