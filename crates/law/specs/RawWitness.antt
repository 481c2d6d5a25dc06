-- RAW CALLS, by value: 1 by 2. What a raw call receives is what changed since the last raw call that was not refused. Assumes nothing.
use Rattle.std.specs.Prelude.{ℕ, ◌+◌, ◌≡◌, refl, Bool, true, false, List, [], ◌∷◌, length, get_or}
use Rattle.steps.specs.Steps.{base}
use Rattle.window.specs.Lists.{by_place}
use Rattle.law.specs.Law as law
use Rattle.law.specs.Law.{Call, Played, received, play, start}
use Rattle.law.specs.Witness.{takes, none, opened}

abbrev measures : ℕ → Call
measures byte = law.raw (byte ∷ []) (0 ∷ 0 ∷ 0 ∷ []) (0 ∷ [])

abbrev runs : Call
runs = law.run 65536

unfoldable pub after : List Call → Played
after calls = play base (start none) calls

-- the defect received in each round from 3 on, and the sheet's one bit
abbrev pub defects : Played → List ℕ
defects p = by_place (length p.receipts) (λ i. received p (record { round = 3 + i; row = 0; column = 1 }))

abbrev pub sheet : Played → Bool
sheet p = get_or p.window.measured 0 false

pub record RawMet : Type 0 where
  -- 1, 1 and 0 are measured: it changes, stays, and changes back
  pub changes : defects (after (measures 1 ∷ runs ∷ measures 1 ∷ runs ∷ measures 0 ∷ runs ∷ [])) ≡ 1 ∷ 0 ∷ 1 ∷ []
  pub back : sheet (after (measures 1 ∷ runs ∷ measures 1 ∷ runs ∷ measures 0 ∷ runs ∷ [])) ≡ false
  -- a plain call in between leaves the sheet
  pub plain : defects (after (measures 1 ∷ runs ∷ takes 0 ∷ runs ∷ measures 1 ∷ runs ∷ [])) ≡ 1 ∷ 0 ∷ 0 ∷ []
  -- and so does one that is refused, here in the wrong stage
  pub refused : defects (after (measures 1 ∷ measures 0 ∷ runs ∷ measures 1 ∷ runs ∷ [])) ≡ 1 ∷ 0 ∷ []
  pub left : sheet (after (measures 1 ∷ measures 0 ∷ [])) ≡ true

pub raw_met : RawMet
unfolding opened after
raw_met = record { changes = refl; back = refl; plain = refl; refused = refl; left = refl }
