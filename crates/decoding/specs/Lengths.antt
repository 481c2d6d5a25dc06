-- How long a record can be: any fits an empty buffer of the program. Assumes nothing.
use Rattle.std.specs.Prelude.{ℕ, ◌+◌, ◌*◌, ◌≤◌}
use Rattle.std.proofs.Common.{arith}
use Rattle.shape.specs.Sizes.{max_detectors, max_layer_edges}

-- the bytes of a record at most: both lists of the largest shape, and the count of steps
abbrev pub max_record : ℕ
max_record = 2 * max_layer_edges + 1 + (2 * max_detectors + 1) + 3

-- the program's buffer has 65,536 bytes
pub record-fits : max_record ≤ 65536
record-fits = omega arith
