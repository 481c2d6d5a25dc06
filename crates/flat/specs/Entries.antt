-- WHERE NODES AND EDGES STAND. A plane has 4,608 entries: a margin of 512, the nodes in the internal order, and a margin behind them. The
-- nodes' numbers and their marks are a plane each; the edges are a plane for each kind, an edge at the entry of the end that names it.
-- Assumes nothing.
use Rattle.std.specs.Prelude.{ℕ, ◌+◌, ◌-◌, ◌*◌, ◌≡◌, Bool, ◌&&◌, List, [], ltb, leb, length, get_or}
use Rattle.flat.specs.Codes.{active_of, defect_of, unrooted_of, pointer_of, growth_of, correction_of}

abbrev pub margin : ℕ
margin = 512

abbrev pub plane : ℕ
plane = 4608

-- the planes of edges: six kinds at the most
abbrev pub planes : ℕ
planes = 27648

abbrev pub entry : ℕ → ℕ
entry g = margin + g

-- an edge of a kind
abbrev pub cell : ℕ → ℕ → ℕ
cell kind x = kind * plane + x

-- the entry is one of n nodes'
abbrev pub within : ℕ → ℕ → Bool
within n x = leb margin x && ltb x (margin + n)

-- the entry over a direction, or the edge's: offsets have the margin added
abbrev pub over_by : ℕ → ℕ → ℕ
over_by x by = x + by - margin

-- WHAT STANDS THERE, by entry
pub record State : Type 0 where
  pub active : ℕ → Bool
  pub defect : ℕ → Bool
  pub unrooted : ℕ → Bool
  pub pointer : ℕ → ℕ
  pub mark : ℕ → ℕ
  pub growth : ℕ → ℕ
  pub correction : ℕ → Bool

-- as the machine's three arrays have it
abbrev pub state_of : List ℕ → List ℕ → List ℕ → State
state_of nodes marks edges =
    record {
      active = λ x. active_of (get_or nodes x 0);
      defect = λ x. defect_of (get_or nodes x 0);
      unrooted = λ x. unrooted_of (get_or nodes x 0);
      pointer = λ x. pointer_of (get_or nodes x 0);
      mark = λ x. get_or marks x 0;
      growth = λ e. growth_of (get_or edges e 0);
      correction = λ e. correction_of (get_or edges e 0);
    }

-- by its nodes alone, for what reads no marks and no edges
abbrev pub by_nodes : List ℕ → State
by_nodes nodes = state_of nodes [] []

-- the arrays are as long as they are made
pub record Long (nodes marks edges : List ℕ) : Type 0 where
  pub of-nodes : length nodes ≡ plane
  pub of-marks : length marks ≡ plane
  pub of-edges : length edges ≡ planes
