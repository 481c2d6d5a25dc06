-- MERGING, one step: what a node sees, what becomes of it, and the window after the step. Assumes nothing.
use Rattle.std.specs.Prelude.{ℕ, ◌+◌, ◌-◌, ◌*◌, Bool, true, false, ◌&&◌, ◌||◌, not, List, [], ◌∷◌, ltb, eqb, length, get_or}
use Rattle.shape.specs.Choice.{if}
use Rattle.shape.specs.Nodes.{number_of}
use Rattle.steps.specs.Steps.{Table, step, namer, slot_kind, slot_node}
use Rattle.window.specs.Lists.{by_place, over, any, xor}
use Rattle.window.specs.Window.{size, at, place, detector, to}
use Rattle.window.specs.declared.Mark.{Mark}
use Rattle.window.specs.declared.Mark.TheVariants.{Reset, Root}
use Rattle.window.specs.declared.Stage.TheVariants.{Rest, Merging}
use Rattle.window.specs.declared.Node.{Node}
use Rattle.window.specs.declared.Seen.{Seen}
use Rattle.window.specs.declared.Flooded.{Flooded}
use Rattle.window.specs.declared.Stepped.{Stepped}
use Rattle.window.specs.declared.Way.{Way}
use Rattle.window.specs.declared.Window.{Window}

-- hot means a detector with a defect
abbrev pub hot : Bool → Node → Bool
hot detector n = detector && n.defect

-- a hot node sends its defect along its pointer
abbrev pub pushes : Bool → Node → ℕ → Bool
pushes detector n p = hot detector n && eqb n.pointer p

-- WHAT A NODE SEES in a direction: an edge or none, of growth 2 or not; and the node at its other end, which may push along the edge's other direction

abbrev pub nothing : Seen
nothing = record { there = false; grown = false; active = false; pushes = false; mark = Reset }

unfoldable pub sees : Way → ℕ → Node → ℕ → Seen
sees r growth other back =
    if r.there
    (record { there = true; grown = eqb growth 2; active = other.active; pushes = pushes r.detector other back; mark = other.mark })
    nothing

-- SYNCING

-- pointer C: active becomes hot; otherwise that of the node pointed to
unfoldable pub synced_active : ℕ → Bool → List Seen → Bool
synced_active p is_hot ss = if (eqb p 0) is_hot (get_or ss (p - 1) nothing).active

-- a hot node whose pointer is not C sends its defect along
abbrev pub sends : Bool → Node → Bool
sends detector n = hot detector n && not (eqb n.pointer 0)

-- what arrives adds up modulo 2
unfoldable pub arrivals : List Seen → Bool → Bool
arrivals [] b = b
arrivals (s ∷ ss) b = arrivals ss (xor b s.pushes)

-- its own defect is toggled, and so is the receiver's if that is a detector
abbrev pub synced_defect : Bool → Node → List Seen → Bool
synced_defect detector n ss = xor (xor n.defect (sends detector n)) (detector && arrivals ss false)

-- an edge's correction bit, flipped by each end that pushes along it
abbrev pub flipped : Bool → Bool → Node → ℕ → Seen → Bool
flipped old detector n p s = if s.there (xor (xor old (pushes detector n p)) s.pushes) old

-- FLOODING

-- by a mark: reset, or a number
abbrev pub on_mark {ℓ} : {A : Type ℓ} → Mark → A → (ℕ → A) → A
on_mark Reset a f = a
on_mark (Root m) a f = f m

abbrev pub flooded : Bool → ℕ → Mark → Bool → Flooded
flooded unrooted pointer mark busy = record { unrooted = unrooted; pointer = pointer; mark = mark; busy = busy }

-- The neighbours still to look at, the next of them in direction k + 1: a lower mark is taken; a node that is not unrooted stops at one marked reset
unfoldable pub scan : List Seen → ℕ → Bool → ℕ → Bool → ℕ → Flooded
scan [] k unrooted pointer busy m = flooded unrooted pointer (Root m) busy
scan (s ∷ ss) k unrooted pointer busy m =
    if s.grown
    (on_mark s.mark
    (if unrooted (scan ss (k + 1) unrooted pointer busy m) (flooded unrooted 0 Reset true))
    (λ v. if (ltb v m) (scan ss (k + 1) unrooted (k + 1) true v) (scan ss (k + 1) unrooted pointer busy m)))
    (scan ss (k + 1) unrooted pointer busy m)

-- a node marked reset takes its own number as mark, becomes unrooted and busy; any other looks at its neighbours
unfoldable pub floods : ℕ → Bool → ℕ → Mark → List Seen → Flooded
floods own unrooted pointer mark ss =
    on_mark mark (flooded true pointer (Root own) true) (λ m. scan ss 0 unrooted pointer false m)

-- A NODE'S STEP

unfoldable pub stepped : ℕ → Bool → Node → List Seen → Stepped
stepped own detector n ss =
    let active = synced_active n.pointer (hot detector n) ss in
    let f = floods own n.unrooted n.pointer n.mark ss in
    record {
      node = record { active = active; defect = synced_defect detector n ss; unrooted = f.unrooted; pointer = f.pointer; mark = f.mark };
      busy = f.busy || sends detector n || xor active n.active;
    }

-- THE WINDOW'S STEP: all nodes read the state at its start

module _ (T : Table) (w : Window) where
  -- what node g sees in direction k + 1
  unfoldable pub seen : ℕ → ℕ → Seen
  seen g k =
      let r = to w T (k + 1) g in
      sees r (get_or w.growth r.slot 0) (at w r.node) (step T (k + 1)).back

  unfoldable pub step_at : ℕ → Stepped
  step_at g = stepped (number_of w.shape.height w.shape.distance (place w g)) (detector w g) (at w g) (by_place (length T.steps) (seen g))

  -- the slot of node g's own edge of a kind
  unfoldable pub flipped_slot : ℕ → Bool
  flipped_slot e =
      let g = slot_node (size w) e in
      let p = namer T (slot_kind (size w) e) in
      flipped (get_or w.correction e false) (detector w g) (at w g) p (seen g (p - 1))

  -- if no node was busy, the stage is rest
  unfoldable pub merged : Window
  merged =
      record {
        shape = w.shape;
        stage = if (any (size w) (λ g. (step_at g).busy)) Merging Rest;
        next = w.next;
        nodes = over (size w) (λ g. (step_at g).node) w.nodes;
        growth = w.growth;
        correction = over (T.kinds * size w) flipped_slot w.correction;
        measured = w.measured;
      }
