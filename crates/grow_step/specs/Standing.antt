-- SOME WINDOW STANDS in the arrays: of n nodes, so many to a sheet, by a plan that is right for its table. Assumes nothing.
use Rattle.std.specs.Prelude.{ℕ, ◌≡◌}
use Rattle.steps.specs.Steps.{Table}
use Rattle.steps.specs.Suited.{Suited}
use Rattle.window.specs.Window.{size, sheet}
use Rattle.window.specs.declared.Window.{Window}
use Rattle.closure.specs.Closure.{Kept}
use Rattle.flat.specs.Entries.{State}
use Rattle.flat.specs.Plan.{Plan}
use Rattle.shows.specs.Planned.{Planned}
use Rattle.shows.specs.Shows.{Shows}

abbrev pub Standing : Plan → ℕ → ℕ → State → Type 0
Standing P n rows st = (T : Table) × Suited T × (w : Window) × (size w ≡ n) × (sheet w ≡ rows) × Kept T w × Planned T w.shape.height w.shape.distance P × Shows T w st
