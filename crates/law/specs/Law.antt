-- DEMAND 3: what holds after every list of calls on a fresh window, raw and refused calls among them. Assumes nothing.
use Rattle.std.specs.Prelude.{ℕ, zero, suc, ◌+◌, ◌-◌, ◌*◌, ◌%◌, ◌≤◌, ◌<◌, ◌≡◌, Bool, true, false, ◌&&◌, ◌||◌, List, [], ◌∷◌, ◌++◌, ltb, leb, eqb, length, get_or}
use Rattle.refusal.specs.Answer.{done, value_or, itself}
use Rattle.shape.specs.Sizes.{sheets_of}
use Rattle.layers.specs.Layers.{edge_of, layer_edges}
use Rattle.shape.specs.Nodes.{index_of, number_of}
use Rattle.steps.specs.Steps.{Table, step, goes, namer}
use Rattle.layers.specs.declared.Edge.{Edge}
use Rattle.shape.specs.declared.Place.{Place}
use Rattle.window.specs.Lists.{bit}
use Rattle.window.specs.Window.{is_rest, reach, size, present, at, place, detector, to}
use Rattle.window.specs.Round.{edge_slot}
use Rattle.window.specs.Measured.{differences, as_sheet}
use Rattle.window.specs.Calls.{leaves, Round, window_of, fresh_call, round_call, raw_call, grow_call, merging_call, run_call}
use Rattle.window.specs.declared.Window.{Window}

-- LISTS OF CALLS

-- a call, with the bytes, the budget and the buffers that its caller brings
pub data Call : Type 0 where
  round : (bytes edges escapes : List ℕ) → Call
  raw : (bytes edges escapes : List ℕ) → Call
  grow : Call
  merging : Call
  run : (budget : ℕ) → Call

-- of a round call that is not refused, plain or raw: the defects received, and both buffers as they are when it returns
pub record Receipt : Type 0 where
  pub defects : List ℕ
  pub edges : List ℕ
  pub escapes : List ℕ

-- the window after a list of calls; the receipts of its round calls, the first one first; and the bytes of its last raw call that was not
-- refused, none if there was none
pub record Played : Type 0 where
  pub window : Window
  pub receipts : List Receipt
  pub last_raw : List ℕ

abbrev pub receipt_of : List ℕ → Round → Receipt
receipt_of defects r = record { defects = defects; edges = r.edges; escapes = r.escapes }

module _ (T : Table) where
  -- the window that a call returns
  abbrev pub returned : Window → Call → Window
  returned w (round bytes edges escapes) = (leaves (round_call T w bytes edges escapes) window_of w).window
  returned w (raw bytes edges escapes) = (leaves (raw_call T w bytes edges escapes) window_of w).window
  returned w grow = (leaves (grow_call T w) itself w).window
  returned w merging = (leaves (merging_call T w) itself w).window
  returned w (run budget) = (leaves (run_call T w budget) (λ r. r.window) w).window

  -- The receipt of a call, if it has one. The defects received are the bytes of a plain call, and of a raw one the places where its bytes
  -- differ from the last measured sheet
  abbrev pub receipted : Window → Call → List Receipt
  receipted w (round bytes edges escapes) = value_or (round_call T w bytes edges escapes) (λ r. receipt_of bytes r ∷ []) []
  receipted w (raw bytes edges escapes) = value_or (raw_call T w bytes edges escapes) (λ r. receipt_of (differences w.measured bytes) r ∷ []) []
  receipted w grow = []
  receipted w merging = []
  receipted w (run budget) = []

  -- the bytes of the last raw call that was not refused: this one's, or the old ones
  abbrev pub last_raw_after : Window → List ℕ → Call → List ℕ
  last_raw_after w old (round bytes edges escapes) = old
  last_raw_after w old (raw bytes edges escapes) = value_or (raw_call T w bytes edges escapes) (λ r. bytes) old
  last_raw_after w old grow = old
  last_raw_after w old merging = old
  last_raw_after w old (run budget) = old

  -- one call more
  abbrev pub called : Played → Call → Played
  called p c =
      record { window = returned p.window c; receipts = p.receipts ++ receipted p.window c; last_raw = last_raw_after p.window p.last_raw c }

  -- each call gets the window as the last one returned it
  unfoldable pub play : Played → List Call → Played
  play p [] = p
  play p (c ∷ cs) = play (called p c) cs

abbrev pub start : Window → Played
start w = record { window = w; receipts = []; last_raw = [] }

-- DETECTORS AND EDGES, BY ROUND

-- a row and a column in a round
pub record Spot : Type 0 where
  pub round : ℕ
  pub row : ℕ
  pub column : ℕ

abbrev pub same : Spot → Spot → Bool
same a b = eqb a.round b.round && eqb a.row b.row && eqb a.column b.column

-- An edge of round n's layer has one end at the node that names it, in round n, and the other over the step in which it is named: in
-- the same round, or, one sheet up, in the next
abbrev pub near_end : ℕ → Edge → Spot
near_end n e = record { round = n; row = e.row; column = e.column }

abbrev pub far_end : Table → ℕ → Edge → Spot
far_end T n e =
    let st = step T (namer T e.kind) in
    record { round = n + st.sheet.less - st.sheet.more; row = goes st.row e.row; column = goes st.column e.column }

abbrev pub ends : Table → ℕ → Edge → Spot → Bool
ends T n e a = same (near_end n e) a || same (far_end T n e) a

-- f 0 + f 1 + .. + f (n - 1)
unfoldable pub sum : ℕ → (ℕ → ℕ) → ℕ
sum zero f = 0
sum (suc n) f = sum n f + f n

-- past the last receipt there is nothing
abbrev pub no_receipt : Receipt
no_receipt = record { defects = []; edges = []; escapes = [] }

-- nothing left with the round: all bytes of both buffers are 0
abbrev pub NothingLeft : Receipt → Type 0
NothingLeft r = (i : ℕ) → (get_or r.edges i 0 ≡ 0) × (get_or r.escapes i 0 ≡ 0)

module _ (p : Played) where
  abbrev pub height : ℕ
  height = p.window.shape.height

  abbrev pub distance : ℕ
  distance = p.window.shape.distance

  abbrev pub sheets : ℕ
  sheets = sheets_of distance

  -- Rounds 0 to b, b = s - 1, are absent; the first round call that is not refused, plain or raw, receives round s, each later one the round
  -- after. This is the last one.
  abbrev pub last : ℕ
  last = sheets - 1 + length p.receipts

  -- The ith of these calls, from 0: it receives round s + i, and the edges and the defects of round i leave the window
  abbrev pub receipt : ℕ → Receipt
  receipt i = get_or p.receipts i no_receipt

  -- rounds 0 to b are absent: nothing left with them
  abbrev pub AbsentEmpty : Type 0
  AbsentEmpty = (n : ℕ) → n < sheets → NothingLeft (receipt n)

  -- depth k is round last - k: the rounds that are in the window
  abbrev pub in_window : ℕ → Bool
  in_window n = leb n last && ltb (last - n) sheets

  abbrev pub place_now : Spot → Place
  place_now a = record { depth = last - a.round; row = a.row; column = a.column }

  -- the detector's byte in a slice or buffer of one byte a detector, row by row
  abbrev pub entry : Spot → ℕ
  entry a = a.row * (distance - 1) + (a.column - 1)

  -- the defect received is its byte in the receipt of the call that received the round, a supplied one
  abbrev pub received : Spot → ℕ
  received a = get_or (receipt (a.round - sheets)).defects (entry a) 0

  -- committed is an edge of round n's layer whose byte the call that receives round n + s left 1 in the edge buffer
  abbrev pub committed : ℕ → ℕ → Bool
  committed n i = eqb (get_or (receipt n).edges i 0) 1

  -- a defect stands now where the window holds one
  abbrev pub standing : Spot → Bool
  standing a = in_window a.round && (at p.window (index_of height distance (place_now a))).defect

  -- handed out as escaped is a detector of round n whose byte the call that receives round n + s left 1 in the escape buffer
  abbrev pub escaped : Spot → Bool
  escaped a = eqb (get_or (receipt a.round).escapes (entry a) 0) 1

  -- a detector of a supplied round
  pub record Detector (a : Spot) : Type 0 where
    pub supplied : sheets ≤ a.round
    pub arrived : a.round ≤ last
    pub row : a.row < height
    pub west : 1 ≤ a.column
    pub east : a.column < distance

module _ (T : Table) (p : Played) where
  -- pending is an edge of the window whose correction bit is set
  abbrev pub pending : ℕ → ℕ → Bool
  pending n i =
      let e = edge_of T (height p) (distance p) i in
      in_window p n
      && (reach T (height p) (distance p) (present p.window) (namer T e.kind) (place_now p (near_end n e))).there
      && get_or p.window.correction (edge_slot (height p) (distance p) (last p - n) e) false

  -- the number of edges of a sort that end at a detector: over the layers of all rounds up to the last, and the edges i of each
  abbrev pub ending : (ℕ → ℕ → Bool) → Spot → ℕ
  ending sort a =
      sum (last p + 1) (λ n. sum (layer_edges T (height p) (distance p)) (λ i. bit (sort n i && ends T n (edge_of T (height p) (distance p) i) a)))

-- CLUSTERS

module _ (T : Table) (w : Window) where
  -- the edge from node g in a direction is there, and of growth 2
  pub record Grown (g p : ℕ) : Type 0 where
    pub there : (to w T p g).there ≡ true
    pub halves : get_or w.growth (to w T p g).slot 0 ≡ 2

  -- joined by edges of growth 2: the nodes that are so joined to g are the cluster of g
  pub data Joined : ℕ → ℕ → Type 0 where
    alone : {g : ℕ} → Joined g g
    over : {g p u : ℕ} → Grown g p → Joined (to w T p g).node u → Joined g u

  -- a root is a node whose pointer is C
  abbrev pub IsRoot : ℕ → Type 0
  IsRoot g = (at w g).pointer ≡ 0

  -- following pointers, each along an edge, ends at a root
  pub data Leads : ℕ → ℕ → Type 0 where
    arrived : {g : ℕ} → IsRoot g → Leads g g
    along : {g r : ℕ} → (to w T (at w g).pointer g).there ≡ true → Leads (to w T (at w g).pointer g).node r → Leads g r

  -- the document's number of a node
  abbrev pub number : ℕ → ℕ
  number g = number_of w.shape.height w.shape.distance (place w g)

  -- what holds of the cluster of node g
  pub record Cluster (g : ℕ) : Type 0 where
    -- it has a root
    pub root : ℕ
    pub member : Joined g root
    pub is_root : IsRoot root
    -- and no other,
    pub only : (u : ℕ) → Joined g u → IsRoot u → u ≡ root
    -- its lowest-numbered node,
    pub lowest : (u : ℕ) → Joined g u → number root ≤ number u
    -- and all its pointers lead there;
    pub pointers : (u : ℕ) → Joined g u → Leads u root
    -- a node is active exactly when its root bears a defect
    pub active : (u : ℕ) → Joined g u → (at w u).active ≡ (at w root).defect

  pub record Rested : Type 0 where
    pub clusters : (g : ℕ) → g < size w → Cluster g
    -- defects stand only on detector roots
    pub defects : (g : ℕ) → g < size w → (at w g).defect ≡ true → IsRoot g × (detector w g ≡ true)

-- THE LAW

-- for every detector of every supplied round, modulo 2
abbrev pub Conserved : Table → Played → Type 0
Conserved T p =
    (a : Spot) → Detector p a
    → received p a % 2 ≡ (ending T p (committed p) a + ending T p (pending T p) a + bit (standing p a) + bit (escaped p a)) % 2

pub record Law (T : Table) (fresh : Window) (p : Played) : Type 0 where
  -- no defect is lost
  pub conserved : Conserved T p
  -- nothing leaves with an absent round
  pub absent : AbsentEmpty p
  -- whenever the list leaves the window at rest
  pub rested : is_rest p.window.stage ≡ true → Rested T p.window
  -- the shape is the fresh window's, and depth k holds round next - 1 - k
  pub shape : p.window.shape ≡ fresh.shape
  pub next : p.window.next ≡ last p + 1
  -- the last measured sheet is the bytes of the last raw call that was not refused, all zero if there was none (in plain numbers: `PlainSheet`)
  pub sheet : p.window.measured ≡ as_sheet p.last_raw

-- of every fresh window, whatever the limits that it is created for, and whatever list of calls it is given
abbrev pub Demand3 : Table → Type 0
Demand3 T =
    (height distance model largest_height largest_distance : ℕ) (w : Window) (n : ℕ) → fresh_call T height distance model largest_height largest_distance ≡ done w n
    → (calls : List Call) → Law T w (play T (start w) calls)
