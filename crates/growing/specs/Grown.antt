-- GROW by entries: the list of active nodes, what an edge gains by the nodes that reach it, and a bottom node whose pointer falls is cut.
-- Assumes nothing.
use Rattle.std.specs.Prelude.{ℕ, zero, suc, ◌+◌, ◌*◌, ◌/◌, ◌%◌, ◌≤◌, ◌<◌, min, ◌≡◌, Bool, true, false, List, eqb, length, get_or}
use Rattle.shape.specs.Choice.{if}
use Rattle.window.specs.Lists.{bit}
use Rattle.flat.specs.Codes.{active_of, pointer_of, growth_of, reset_code, no_edge}
use Rattle.flat.specs.Entries.{planes, within, over_by}
use Rattle.flat.specs.Plan.{Plan}
use Rattle.flat.specs.Step.{named, list_at, active_at, Places}
use Rattle.queue.specs.Queue.{Queue, Extends}

-- THE ACTIVE NODES of the first n, each once, in rising order; the work lists are as they were
pub record Actives (n : ℕ) (nodes : List ℕ) (count : ℕ) (old lists : List ℕ) : Type 0 where
  pub few : count ≤ n
  pub long : length lists ≡ length old
  pub places : Places n count (active_at lists)
  pub active : (i : ℕ) → i < count → active_of (get_or nodes (active_at lists i) 0) ≡ true
  pub rise : (i j : ℕ) → i < j → j < count → active_at lists i < active_at lists j
  pub all : (x : ℕ) → within n x ≡ true → active_of (get_or nodes x 0) ≡ true → named (active_at lists) count x ≡ true
  pub before : (i : ℕ) → i < 9216 → get_or lists i 0 ≡ get_or old i 0

-- AN EDGE that gained so many halves, with its correction as it was; no edge stays none
abbrev pub raised : ℕ → ℕ → ℕ
raised v h = 4 * (v / 4) + if (eqb (growth_of v) no_edge) (growth_of v) (min 2 (growth_of v + h))

-- how many of the first c places are e
unfoldable pub hits_in : (ℕ → ℕ) → ℕ → ℕ → ℕ
hits_in place zero e = 0
hits_in place (suc c) e = hits_in place c e + bit (eqb (place c) e)

-- where the listed nodes' edges in a direction stand
abbrev pub edges_of : Plan → (ℕ → ℕ) → ℕ → ℕ → ℕ
edges_of P list k i = over_by (list i) (P.slot k)

-- how often the listed nodes reach e in the first directions
unfoldable pub hits_of : Plan → (ℕ → ℕ) → ℕ → ℕ → ℕ → ℕ
hits_of P list listed zero e = 0
hits_of P list listed (suc k) e = hits_of P list listed k e + hits_in (edges_of P list k) listed e

-- what lies over an edge that is there is one of n nodes
abbrev pub Leads : Plan → ℕ → (ℕ → ℕ) → Type 0
Leads P n growth = (x k : ℕ) → within n x ≡ true → k < P.dirs → eqb (growth (over_by x (P.slot k))) no_edge ≡ false → within n (over_by x (P.off k)) ≡ true

-- a node and a direction in which the edge at e was opened: both its ends are on the work list
pub record Opener (P : Plan) (n more : ℕ) (lists : List ℕ) (e : ℕ) : Type 0 where
  pub node : ℕ
  pub way : ℕ
  pub inside : within n node ≡ true
  pub low : way < P.dirs
  pub edge : over_by node (P.slot way) ≡ e
  pub here : named (list_at lists 0) more node ≡ true
  pub there : named (list_at lists 0) more (over_by node (P.off way)) ≡ true

-- EDGES GAINED, each as many halves as it was reached, and the work list got the ends of those that opened
pub record Raised (P : Plan) (n : ℕ) (hits : ℕ → ℕ) (edges edges' : List ℕ) (count more : ℕ) (old lists : List ℕ) (queued : List Bool) : Type 0 where
  pub long : length edges' ≡ length edges
  pub gains : (e : ℕ) → e < planes → get_or edges' e 0 ≡ raised (get_or edges e 0) (hits e)
  pub queue : Queue 0 more lists queued
  pub extends : Extends 0 count more old lists
  pub places : Places n count (list_at old 0) → Places n more (list_at lists 0)
  pub opened : (e : ℕ) → e < planes → eqb (growth_of (get_or edges e 0)) 2 ≡ false → eqb (growth_of (get_or edges' e 0)) 2 ≡ true → Opener P n more lists e

-- A BOTTOM NODE, and its mark: pointer C and reset, if its pointer falls
abbrev pub cut_node : (ℕ → Bool) → ℕ → ℕ
cut_node falls v = if (falls (pointer_of v)) (v % 8) v

abbrev pub cut_mark : (ℕ → Bool) → ℕ → ℕ → ℕ
cut_mark falls v m = if (falls (pointer_of v)) reset_code m
