-- The document's printed lines about shapes, on the rules themselves. Assumes nothing.
use Rattle.std.specs.Prelude.{refl}
use Rattle.shape.specs.Printed.{Printed}

pub printed : Printed
printed =
    record {
      nodes-1-2 = refl;
      nodes-3-3 = refl;
      nodes-15-15 = refl;
      edges-3-3 = refl;
      diagonals-3-3 = refl;
      edges-15-15 = refl;
      diagonals-15-15 = refl;
      height-0 = refl;
      height-16 = refl;
      distance-1 = refl;
      distance-16 = refl;
      model-2 = refl;
      distance-first = refl;
    }
