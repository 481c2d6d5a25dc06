-- How many sheets are there: never more than are asked for. Assumes nothing.
use Rattle.std.specs.Prelude.{ℕ, ◌≤◌}
use Rattle.std.proofs.Common.{arith}
use Rattle.window.specs.Window.{supplied}

pub supplied-le : (d next k : ℕ) → supplied d next k ≤ k
supplied-le d next k = omega arith
