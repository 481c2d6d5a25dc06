-- WHICH EDGES ARE THERE, by sheet, row and column: those that the template has, from a sheet that is there, and of a kind that rises not
-- from the top one. Assumes nothing.
use Rattle.std.specs.Prelude.{ℕ, Bool, ◌&&◌, ◌||◌, not, ltb}
use Rattle.steps.specs.Steps.{Table}
use Rattle.shows.specs.Sinks.{rises}

-- the sheet at a depth is there, and the kind's edges may start in it
abbrev pub starts_at : Table → ℕ → ℕ → ℕ → Bool
starts_at T there kind j = ltb j there && (not (rises T kind) || ltb 0 j)
