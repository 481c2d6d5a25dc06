-- A window as it is given: well-formed, with arrays of their lengths. Assumes nothing.
use Rattle.std.specs.Prelude.{◌≡◌, true, length}
use Rattle.std.proofs.Common.{sym, ◌∙◌}
use Rattle.shape.proofs.Ranges.{in-range}
use Rattle.shape.specs.Sizes.{IsShape, max_nodes, max_detectors}
use Rattle.steps.specs.Models.{of_model}
use Rattle.window.specs.Window.{max_slots}
use Rattle.window.specs.Fresh.{slots-model}
use Rattle.window.specs.Formed.{well_formed}
use Rattle.window.specs.declared.Window.{Window}
use Rattle.closure.specs.Closure.{Kept}
use Rattle.closure.specs.Facts.{facts}

module _ (w : Window) (e : well_formed (of_model w.shape.model) w ≡ true) where
  pub formed-shape : IsShape w.shape
  formed-shape = let f = facts (of_model w.shape.model) w e in record { sizes = in-range w.shape.height w.shape.distance f.ranged; model = f.model }

  pub kept_by : length w.nodes ≡ max_nodes → length w.growth ≡ max_slots → length w.correction ≡ max_slots → length w.measured ≡ max_detectors → Kept (of_model w.shape.model) w
  kept_by n g c m = record { formed = e; sized = record { nodes = n; growth = g ∙ sym (slots-model w.shape.model); correction = c ∙ sym (slots-model w.shape.model); measured = m } }
