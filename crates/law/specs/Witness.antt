-- EACH TERM OF THE LAW IS MET, by value: 1 by 2, one defect, in round 3. It stands, then it is pushed over an edge that is pending, then that
-- edge is committed; and where it is not pushed it escapes. Each time the other terms are 0, so without the one the law would be false.
-- Assumes nothing.
use Rattle.std.specs.Prelude.{ℕ, zero, suc, ◌<◌, ◌≡◌, refl, true, false, List, [], ◌∷◌, get_or}
use Rattle.std.proofs.Common.{arith, sym, ◌∙◌, ap}
use Rattle.refusal.specs.Laws.{undone}
use Rattle.list.specs.Sheet as list
use Rattle.layers.specs.Layers as layers
use Rattle.shape.specs.Nodes as nodes
use Rattle.steps.specs.Ranks as ranks
use Rattle.steps.specs.Steps as steps
use Rattle.steps.specs.Steps.{base}
use Rattle.window.specs.Calls as calls
use Rattle.window.specs.Formed as formed
use Rattle.window.specs.Fresh as fresh
use Rattle.window.specs.Grow as grow
use Rattle.window.specs.Lists as lists
use Rattle.window.specs.Lists.{bit}
use Rattle.window.specs.Measured as measured
use Rattle.window.specs.Merging as merging
use Rattle.window.specs.Round as round
use Rattle.window.specs.Run as run
use Rattle.window.specs.Window as window
use Rattle.window.specs.Window.{size, at}
use Rattle.window.specs.declared.Stage.TheVariants.{Rest}
use Rattle.window.specs.declared.Window.{Window}
use Rattle.law.specs.Law as law
use Rattle.law.specs.Law.{Call, Receipt, Played, Spot, received, committed, pending, standing, escaped, ending, play, start, receipt, no_receipt, sheets, NothingLeft, AbsentEmpty, Rested}

-- the five terms of the law at a detector
pub record Terms : Type 0 where
  pub received : ℕ
  pub committed : ℕ
  pub pending : ℕ
  pub standing : ℕ
  pub escaped : ℕ

abbrev pub terms : Played → Spot → Terms
terms p a =
    record {
      received = received p a;
      committed = ending base p (committed p) a;
      pending = ending base p (pending base p) a;
      standing = bit (standing p a);
      escaped = bit (escaped p a);
    }

-- received; committed, pending, standing, escaped
abbrev pub are : ℕ → ℕ → ℕ → ℕ → ℕ → Terms
are r c q s e = record { received = r; committed = c; pending = q; standing = s; escaped = e }

abbrev pub spot : Spot
spot = record { round = 3; row = 0; column = 1 }

-- THE TIE of document 01

abbrev pub takes : ℕ → Call
takes byte = law.round (byte ∷ []) (0 ∷ 0 ∷ 0 ∷ []) (0 ∷ [])

-- empty rounds, each run to rest
unfoldable pub empties : ℕ → List Call
empties zero = []
empties (suc n) = takes 0 ∷ law.run 65536 ∷ empties n

abbrev pub none : Window
none = fresh.fresh_window base (record { height = 1; distance = 2; model = 0 })

-- the round with the defect, then so many empty ones
unfoldable pub tie : ℕ → Played
tie n = play base (start none) (takes 1 ∷ law.run 65536 ∷ empties n)

-- BY HAND: the same rounds, but nothing was grown. The window is well-formed, so a round call takes it; but no list of calls on a fresh window
-- leaves it, since the law's rest clause does not hold of it (`by_hand`).

abbrev fallen : Window
fallen = round.rounded base (round.rounded base (round.rounded base none (1 ∷ [])) (0 ∷ [])) (0 ∷ [])

abbrev empty : ℕ → Receipt
empty byte = record { defects = byte ∷ []; edges = 0 ∷ 0 ∷ 0 ∷ []; escapes = 0 ∷ [] }

unfoldable pub ungrown : Played
ungrown =
    record {
      window = record { shape = fallen.shape; stage = Rest; next = fallen.next; nodes = fallen.nodes; growth = fallen.growth; correction = fallen.correction; measured = fallen.measured };
      receipts = empty 1 ∷ empty 0 ∷ empty 0 ∷ [];
      last_raw = [];
    }

-- BY VALUE

-- all the rules, for `unfolding`
unfoldable pub opened : ℕ
unfolding empties tie ungrown list.are_bits nodes.index_of nodes.place_at nodes.number_of nodes.place_of steps.base steps.across steps.joined steps.near steps.slot steps.naming ranks.rank ranks.pick layers.spans layers.edge_of layers.layer_edges lists.from lists.by_place lists.every lists.any lists.all window.reach fresh.fresh_window formed.pointer_fits formed.node_fits formed.slot_fits_at formed.well_formed round.committed_edges round.escaped_defects round.lowered_number round.top_node round.fallen_node round.fallen_slot round.rounded measured.differences measured.as_sheet measured.measuring grow.grown_slot grow.grown_node grow.grown merging.sees merging.synced_active merging.arrivals merging.scan merging.floods merging.stepped merging.seen merging.step_at merging.flipped_slot merging.merged run.steps_from run.ran calls.round_call calls.raw_call calls.run_call law.play law.sum
opened = 0

pub record Met : Type 0 where
  pub stands : terms (tie 0) spot ≡ are 1 0 0 1 0
  pub pends : terms (tie 2) spot ≡ are 1 0 1 0 0
  pub commits : terms (tie 3) spot ≡ are 1 1 0 0 0
  pub formed : formed.well_formed base ungrown.window ≡ true
  pub still : terms ungrown spot ≡ are 1 0 0 1 0
  pub escapes : terms (play base ungrown (takes 0 ∷ [])) spot ≡ are 1 0 0 0 1

pub met : Met
unfolding opened
met = record { stands = refl; pends = refl; commits = refl; formed = refl; still = refl; escapes = refl }

-- NOTHING LEAVES WITH THE ABSENT ROUNDS 0, 1 and 2; with round 3 the edge does

zeros : (i : ℕ) → get_or {A = ℕ} (0 ∷ 0 ∷ 0 ∷ []) i 0 ≡ 0
zeros zero = refl
zeros (suc zero) = refl
zeros (suc (suc zero)) = refl
zeros (suc (suc (suc i))) = refl

zero_one : (i : ℕ) → get_or {A = ℕ} (0 ∷ []) i 0 ≡ 0
zero_one zero = refl
zero_one (suc i) = refl

nothing-with : (n byte : ℕ) → receipt (tie 3) n ≡ empty byte → NothingLeft (receipt (tie 3) n)
nothing-with n byte e i = rw e (zeros i, zero_one i)

record Empties : Type 0 where
  receipts : (tie 3).receipts ≡ empty 1 ∷ empty 0 ∷ empty 0 ∷ record { defects = 0 ∷ []; edges = 1 ∷ 0 ∷ 0 ∷ []; escapes = 0 ∷ [] } ∷ []
  three : sheets (tie 3) ≡ 3

absent-are : Empties
unfolding opened
absent-are = record { receipts = refl; three = refl }

pub absent-empty : AbsentEmpty (tie 3)
absent-empty zero l = nothing-with 0 1 (ap (λ (r : List Receipt). get_or r 0 no_receipt) absent-are.receipts)
absent-empty (suc zero) l = nothing-with 1 0 (ap (λ (r : List Receipt). get_or r 1 no_receipt) absent-are.receipts)
absent-empty (suc (suc zero)) l = nothing-with 2 0 (ap (λ (r : List Receipt). get_or r 2 no_receipt) absent-are.receipts)
absent-empty (suc (suc (suc n))) l = absurd (omega (arith, absent-are.three))

abbrev held : Window
held = ungrown.window

-- its defect is at node 7, a root that is not active
record AtRoot : Type 0 where
  inside : 7 < size held
  root : (at held 7).pointer ≡ 0
  idle : (at held 7).active ≡ false
  defect : (at held 7).defect ≡ true

at-root : AtRoot
unfolding opened
at-root = record { inside = omega arith; root = refl; idle = refl; defect = refl }

pub by_hand : Rested base held → ⊥
by_hand r =
    let c = r.clusters 7 at-root.inside in
    let same : 7 ≡ c.root = c.only 7 law.alone at-root.root in
    let e : (at held 7).active ≡ (at held 7).defect = c.active 7 law.alone ∙ ap (λ (g : ℕ). (at held g).defect) (sym same) in
    undone (sym at-root.defect ∙ sym e ∙ at-root.idle)
