-- ONE SHEET LOWER, by entries: a node is no longer unrooted, and a mark's number is the node's below. Assumes nothing.
use Rattle.std.specs.Prelude.{ℕ, ◌+◌, ◌-◌, ◌*◌, ◌/◌, ◌%◌, ◌≤◌, ◌&&◌, nat_le, nat_lt}
use Rattle.shape.specs.Choice.{if}
use Rattle.shape.specs.Sizes.{sheets_of}
use Rattle.sinking.specs.declared.Thresholds.{Thresholds}

abbrev pub settled : ℕ → ℕ
settled v = v % 4 + 8 * (v / 8)

-- the numbers of the shape's boundary nodes and detectors
abbrev pub thresholds_of : ℕ → ℕ → Thresholds
thresholds_of h d =
    record {
      boundary = 2 * h * sheets_of d;
      detectors = 2 * h * (sheets_of d + 1);
      end = 2 * h * (sheets_of d + 1) + h * (d - 1) * sheets_of d;
      sides = 2 * h;
      inner = h * (d - 1);
    }

-- so that no number falls twice and none wraps
pub record Ordered (t : Thresholds) : Type 0 where
  pub apart : t.boundary ≤ t.detectors
  pub some : t.detectors ≤ t.end
  pub sides : t.boundary + t.sides ≤ 65535
  pub inner : t.end + t.inner ≤ 65535

abbrev pub lowered_by : Thresholds → ℕ → ℕ
lowered_by t m = m + (if (nat_lt m t.boundary) t.sides 0 + if (nat_le t.detectors m && nat_lt m t.end) t.inner 0)
