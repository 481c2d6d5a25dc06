-- The streams that can be written: a shape in range, and rounds of the shape's sizes. Assumes nothing.
use Rattle.std.specs.Prelude.{ℕ, ◌≤◌, ◌≡◌, true, List, [], ◌∷◌, length}
use Rattle.number.specs.Number.{largest}
use Rattle.list.specs.Sheet.{are_bits}
use Rattle.shape.specs.Sizes.{IsShape, detectors_of, layer_edges_of}
use Rattle.shape.specs.declared.Shape.{Shape}
use Rattle.record.specs.Records.{Result}
use Rattle.trip.specs.Streams.{Stream}

-- a sheet's detectors, and a layer's edges
abbrev pub detectors_in : Shape → ℕ
detectors_in sh = detectors_of sh.height sh.distance

abbrev pub edges_in : Shape → ℕ
edges_in sh = layer_edges_of sh.model sh.height sh.distance

-- so many entries, each 0 or 1
pub record Entries (n : ℕ) (xs : List ℕ) : Type 0 where
  pub size : length xs ≡ n
  pub bits : are_bits xs ≡ true

-- a round of the input: an entry for each detector of the sheet
abbrev pub RoundFits : Shape → List ℕ → Type 0
RoundFits sh round = Entries (detectors_in sh) round

-- a round of the result: an entry for each edge of the layer and for each detector, and a number of steps that can be written
pub record RecordFits (sh : Shape) (r : Result) : Type 0 where
  pub edges : Entries (edges_in sh) r.edges
  pub escapes : Entries (detectors_in sh) r.escapes
  pub steps : r.steps ≤ largest

-- every one of a list
abbrev pub Each : {A : Type 0} → (A → Type 0) → List A → Type 0
Each P [] = Unit {0}
Each P (r ∷ rs) = P r × Each P rs

pub record Fits {A : Type 0} (fits : Shape → A → Type 0) (t : Stream A) : Type 0 where
  pub shape : IsShape t.shape
  pub records : Each (fits t.shape) t.records

abbrev pub InputFits : Stream (List ℕ) → Type 0
InputFits t = Fits RoundFits t

abbrev pub ResultFits : Stream Result → Type 0
ResultFits t = Fits RecordFits t
