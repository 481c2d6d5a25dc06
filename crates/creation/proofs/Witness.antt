-- Creations by value: the refusals in their order, and limits at their edges. Assumes nothing.
use Rattle.std.specs.Prelude.{refl}
use Rattle.creation.specs.Witness.{Witness}

pub witness : Witness
witness =
    record {
      rack = refl;
      console = refl;
      smallest = refl;
      high = refl;
      wide = refl;
      no-height = refl;
      no_distance = refl;
      limit-height-16 = refl;
      limit-distance-16 = refl;
      height-first = refl;
      distance-first = refl;
      model-first = refl;
      model-first-16 = refl;
    }
