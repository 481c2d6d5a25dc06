-- THE FRESH WINDOW. Assumes nothing.
use Rattle.std.specs.Prelude.{ℕ, ◌*◌, max, ◌≡◌, refl, false, replicate}
use Rattle.shape.specs.Sizes.{sheets_of, nodes_of, max_nodes, max_detectors}
use Rattle.shape.specs.Nodes.{number_of, place_at}
use Rattle.shape.specs.declared.Shape.{Shape}
use Rattle.steps.specs.Steps.{Table, base}
use Rattle.steps.specs.Models.{circuit, of_model}
use Rattle.steps.proofs.Models.{of-both}
use Rattle.window.specs.Lists.{over}
use Rattle.window.specs.Window.{alone, unused, max_slots}
use Rattle.window.specs.declared.Stage.TheVariants.{Rest}
use Rattle.window.specs.declared.Window.{Window}

-- the slots of a window: those of the largest shape, and for a table of more kinds so many more
abbrev pub slots_of : Table → ℕ
slots_of T = max max_slots (T.kinds * max_nodes)

pub slots-model : (m : ℕ) → slots_of (of_model m) ≡ max_slots
unfolding base circuit
slots-model m = of-both (λ (T : Table). slots_of T ≡ max_slots) m refl refl

-- stage rest; each node its own cluster with mark its number and pointer C; everything else 0 or false, the measured sheet too; next round s
unfoldable pub fresh_window : Table → Shape → Window
fresh_window T sh =
    record {
      shape = sh;
      stage = Rest;
      next = sheets_of sh.distance;
      nodes = over (nodes_of sh.height sh.distance) (λ g. alone (number_of sh.height sh.distance (place_at sh.height sh.distance g)) false) (replicate max_nodes unused);
      growth = replicate {A = ℕ} (slots_of T) 0;
      correction = replicate (slots_of T) false;
      measured = replicate max_detectors false;
    }

-- what a refused call gives in its place: no shape, no round, nothing in it; no call takes it for a window
unfoldable pub no_window : Window
no_window =
    record {
      shape = record { height = 0; distance = 0; model = 0 };
      stage = Rest;
      next = 0;
      nodes = replicate max_nodes unused;
      growth = replicate {A = ℕ} max_slots 0;
      correction = replicate max_slots false;
      measured = replicate max_detectors false;
    }
