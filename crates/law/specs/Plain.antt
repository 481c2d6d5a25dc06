-- The ends of an edge of either model, a cluster at rest, and a measured sheet, in plain numbers, to be read beside documents 01 and 02. Assumes nothing.
use Rattle.std.specs.Prelude.{ℕ, ◌+◌, ◌%◌, ◌<◌, ◌≡◌, refl, Bool, true, false, List, [], eqb, length, get_or, replicate}
use Rattle.std.proofs.Common.{arith, sym, ◌∙◌, ap}
use Rattle.shape.specs.Sizes.{max_detectors}
use Rattle.list.specs.Sheet.{are_bits}
use Rattle.steps.specs.Steps.{Table, base, naming}
use Rattle.steps.specs.Models.{circuit}
use Rattle.layers.specs.declared.Edge.{Edge}
use Rattle.window.specs.Lists.{bit, xor}
use Rattle.window.specs.Measured.{is_set, differences, as_sheet}
use Rattle.window.specs.LawsMeasured.{difference-at, sheet-none, sheet-at}
use Rattle.window.specs.Window.{size}
use Rattle.window.specs.declared.Window.{Window}
use Rattle.law.specs.Law.{Spot, near_end, far_end, Joined, number, Rested}
use Rattle.law.specs.Bits.{bit-add, byte-bit}
use Rattle.law.specs.Spots.{spot-by}

-- an edge of a kind, named by the node in row r and column c
abbrev edge : ℕ → ℕ → ℕ → Edge
edge kind r c = record { kind = kind; row = r; column = c }

abbrev spot : ℕ → ℕ → ℕ → Spot
spot n r c = record { round = n; row = r; column = c }

-- of round n's layer
pub record Plain (T : Table) : Type 0 where
  -- a row edge joins columns c and c + 1
  pub row_near : (n r c : ℕ) → near_end n (edge 0 r c) ≡ spot n r c
  pub row-far : (n r c : ℕ) → far_end T n (edge 0 r c) ≡ spot n r (c + 1)
  -- a column edge joins rows r and r + 1
  pub column-near : (n r c : ℕ) → near_end n (edge 1 r c) ≡ spot n r c
  pub column-far : (n r c : ℕ) → far_end T n (edge 1 r c) ≡ spot n (r + 1) c
  -- a time edge joins rounds n and n + 1
  pub time-near : (n r c : ℕ) → near_end n (edge 2 r c) ≡ spot n r c
  pub time-far : (n r c : ℕ) → far_end T n (edge 2 r c) ≡ spot (n + 1) r c

pub plain-0 : Plain base
unfolding base naming
plain-0 =
    record {
      row_near = λ n r c. refl;
      row-far = λ n r c. spot-by (far_end base n (edge 0 r c)) (spot n r (c + 1)) (omega arith) (omega arith) (omega arith);
      column-near = λ n r c. refl;
      column-far = λ n r c. spot-by (far_end base n (edge 1 r c)) (spot n (r + 1) c) (omega arith) (omega arith) (omega arith);
      time-near = λ n r c. refl;
      time-far = λ n r c. spot-by (far_end base n (edge 2 r c)) (spot (n + 1) r c) (omega arith) (omega arith) (omega arith);
    }

pub plain-1 : Plain circuit
unfolding circuit naming
plain-1 =
    record {
      row_near = λ n r c. refl;
      row-far = λ n r c. spot-by (far_end circuit n (edge 0 r c)) (spot n r (c + 1)) (omega arith) (omega arith) (omega arith);
      column-near = λ n r c. refl;
      column-far = λ n r c. spot-by (far_end circuit n (edge 1 r c)) (spot n (r + 1) c) (omega arith) (omega arith) (omega arith);
      time-near = λ n r c. refl;
      time-far = λ n r c. spot-by (far_end circuit n (edge 2 r c)) (spot (n + 1) r c) (omega arith) (omega arith) (omega arith);
    }

-- the edges that model 1 has besides: each joins rounds n and n + 1, the upper end one row north, one column east, or one row south and one column east
pub record PlainDiagonals : Type 0 where
  pub near : (n kind r c : ℕ) → near_end n (edge kind r c) ≡ spot n r c
  pub north : (n r c : ℕ) → far_end circuit n (edge 3 (r + 1) c) ≡ spot (n + 1) r c
  pub east : (n r c : ℕ) → far_end circuit n (edge 4 r c) ≡ spot (n + 1) r (c + 1)
  pub south-east : (n r c : ℕ) → far_end circuit n (edge 5 r c) ≡ spot (n + 1) (r + 1) (c + 1)

pub plain-diagonals : PlainDiagonals
unfolding circuit naming
plain-diagonals =
    record {
      near = λ n kind r c. refl;
      north = λ n r c. spot-by (far_end circuit n (edge 3 (r + 1) c)) (spot (n + 1) r c) (omega arith) (omega arith) (omega arith);
      east = λ n r c. spot-by (far_end circuit n (edge 4 r c)) (spot (n + 1) r (c + 1)) (omega arith) (omega arith) (omega arith);
      south-east = λ n r c. spot-by (far_end circuit n (edge 5 r c)) (spot (n + 1) (r + 1) (c + 1)) (omega arith) (omega arith) (omega arith);
    }

-- A CLUSTER AT REST: no node of it has a lower number than its root
pub record PlainCluster (T : Table) (w : Window) : Type 0 where
  pub lowest : (R : Rested T w) (g u : ℕ) (l : g < size w) → Joined T w g u → number T w u < number T w (R.clusters g l).root → ⊥

pub plain-cluster : (T : Table) (w : Window) → PlainCluster T w
plain-cluster T w = record { lowest = λ R g u l j h. let z = (R.clusters g l).lowest u j in omega arith }

-- THE LAST MEASURED SHEET, and what a raw call receives
pub record PlainSheet : Type 0 where
  -- the sheet of no bytes is all zero
  pub none : as_sheet [] ≡ replicate max_detectors false
  -- that of some is set where a byte is 1, and nowhere else
  pub set : (bytes : List ℕ) (i : ℕ) → get_or (as_sheet bytes) i false ≡ eqb (get_or bytes i 0) 1
  -- after the bytes old, the bytes new receive their sum modulo 2: 1 where a check value has changed
  pub change : (old new : List ℕ) (i : ℕ) → are_bits old ≡ true → are_bits new ≡ true → i < length new
      → get_or (differences (as_sheet old) new) i 0 ≡ (get_or new i 0 + get_or old i 0) % 2

pub plain-sheet : PlainSheet
plain-sheet =
    record {
      none = sheet-none;
      set = sheet-at;
      change = λ old new i a b l.
          difference-at (as_sheet old) new i l
          ∙ ap (λ (x : Bool). bit (xor (is_set new i) x)) (sheet-at old i)
          ∙ sym (bit-add (get_or new i 0) (get_or old i 0) (is_set new i) (is_set old i) (byte-bit new b i) (byte-bit old a i));
    }
