-- WHAT A LIST HAS OF A WINDOW AT REST in which every node is quiet, after round and grow. Assumes nothing.
use Rattle.std.specs.Prelude.{ℕ, ◌<◌, ◌≡◌, Bool, true, false, List}
use Rattle.steps.specs.Steps.{Table}
use Rattle.window.specs.Grow.{grown}
use Rattle.window.specs.Round.{rounded}
use Rattle.window.specs.Window.{size, to}
use Rattle.window.specs.declared.Window.{Window}
use Rattle.closure.specs.After.{orphan}
use Rattle.shows.specs.Riding.{opens}

-- the ends of the edges that opened
abbrev pub OpenedListed : Table → Window → List ℕ → (ℕ → Bool) → Type 0
OpenedListed T w bytes listed = (g p : ℕ) → g < size w → opens T (rounded T w bytes) g p ≡ false → opens T (grown T (rounded T w bytes)) g p ≡ true → listed g ≡ true

-- what lies over the open edges of a node that was cut
abbrev pub NearListed : Table → Window → List ℕ → (ℕ → Bool) → Type 0
NearListed T w bytes listed = (g p : ℕ) → g < size w → orphan T (rounded T w bytes) g ≡ true → opens T (grown T (rounded T w bytes)) g p ≡ true → listed (to (grown T (rounded T w bytes)) T p g).node ≡ true
