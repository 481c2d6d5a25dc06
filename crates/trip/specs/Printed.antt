-- THE PRINTED LINES of document 01 that are to be proved, on the rules themselves. Assumes nothing.
use Rattle.std.specs.Prelude.{◌≡◌, refl, [], ◌∷◌}
use Rattle.refusal.specs.Answer.{refused, refused_at}
use Rattle.number.specs.Number.{written, number_at}
use Rattle.shape.specs.Printed as shape
use Rattle.shape.proofs.Printed.{printed as shapes_printed}
use Rattle.record.specs.Records.{header_at}

pub record Printed : Type 0 where
  -- N of 1 by 2, 3 by 3 and 15 by 15; the edges of a 3 by 3 layer; heights and distances out of range
  pub shapes : shape.Printed
  -- 127 is 7F, 128 is 80 01; 80 00 is refused 8
  pub written-127 : written 127 ≡ 0x7f ∷ []
  pub written-128 : written 128 ≡ 0x80 ∷ 0x01 ∷ []
  pub not-shortest : number_at (0x80 ∷ 0x00 ∷ []) 0 ≡ refused_at 8 0
  -- 0 by 3 and 16 by 3: 1. 1 by 1 and 1 by 16: 2, also before a model out of range
  pub height-0 : header_at (0 ∷ 3 ∷ 0 ∷ []) 0 ≡ refused 1
  pub height-16 : header_at (16 ∷ 3 ∷ 0 ∷ []) 0 ≡ refused 1
  pub distance-1 : header_at (1 ∷ 1 ∷ 0 ∷ []) 0 ≡ refused 2
  pub distance-16 : header_at (1 ∷ 16 ∷ 0 ∷ []) 0 ≡ refused 2
  pub distance-first : header_at (1 ∷ 16 ∷ 2 ∷ []) 0 ≡ refused 2
  -- 1 by 3 of model 2: 31, and without a model: 7 at offset 2
  pub model-2 : header_at (1 ∷ 3 ∷ 2 ∷ []) 0 ≡ refused 31
  pub no-model : header_at (1 ∷ 3 ∷ []) 0 ≡ refused_at 7 2

pub printed : Printed
unfolding written number_at header_at
printed =
    record {
      shapes = shapes_printed;
      written-127 = refl;
      written-128 = refl;
      not-shortest = refl;
      height-0 = refl;
      height-16 = refl;
      distance-1 = refl;
      distance-16 = refl;
      distance-first = refl;
      model-2 = refl;
      no-model = refl;
    }
