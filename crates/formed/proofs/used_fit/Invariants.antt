-- `formed::used_fit` meets its contract. Assumes nothing.
use Rattle.std.proofs.Common.{◌≡◌, ◌≤◌, Bool, true, ℕ}
use Rattle.steps.specs.Models.{of_model}
use Rattle.shape.specs.declared.Place.{Place}
use Rattle.window.specs.declared.Window.{Window}
use Rattle.window.specs.Lists.{every}
use Rattle.window.specs.Window.{place}
use Rattle.window.specs.Formed.{node_fits_at, slot_fits_at}
use Rattle.formed.proofs.used_fit.Given as goal

abbrev pub slots_fit_at : Window → ℕ → Bool
slots_fit_at w g = every (of_model w.shape.model).kinds (slot_fits_at (of_model w.shape.model) w g)

-- the first g nodes and their slots have passed, and the walk stands at the next
pub record Passed (w : Window) (q : Place) (g : ℕ) : Type 0 where
  pub stood : 1 ≤ w.shape.height → q ≡ place w g
  pub nodes : every g (node_fits_at (of_model w.shape.model) w) ≡ true
  pub slots : every g (slots_fit_at w) ≡ true

abbrev pub invariant-loop-g : goal.invariant-loop-g
invariant-loop-g l = Passed l.w l.place l.g
