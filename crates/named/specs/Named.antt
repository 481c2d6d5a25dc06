-- The shape that a height, a distance and a model name, and what is made of it. Assumes nothing.
use Rattle.std.specs.Prelude.{ℕ, ltb}
use Rattle.shape.specs.Choice.{if}
use Rattle.shape.specs.Sizes.{shape_by, size_by, nodes_of, detectors_of, layer_edges_of}
use Rattle.shape.specs.declared.Shape.{Shape}

-- AS BYTES: 255 for what no byte holds, which is out of range as well

abbrev pub clip : ℕ → ℕ
clip n = if (ltb n 256) n 255

-- SIZES of the shape, 0 where it is refused

abbrev pub nodes_by : ℕ → ℕ → ℕ → ℕ
nodes_by height distance model = size_by (λ (sh : Shape). nodes_of sh.height sh.distance) height distance model

abbrev pub detectors_by : ℕ → ℕ → ℕ → ℕ
detectors_by height distance model = size_by (λ (sh : Shape). detectors_of sh.height sh.distance) height distance model

abbrev pub edges_by : ℕ → ℕ → ℕ → ℕ
edges_by height distance model = size_by (λ (sh : Shape). layer_edges_of sh.model sh.height sh.distance) height distance model

-- a shape without nodes, detectors and edges
abbrev pub none : Shape
none = shape_by 0 0 0
