-- MODEL 1 BY VALUE: 1 by 3, a defect in one round and another a column and a round further. They meet over the edge EU between them, edge 5 of its
-- layer, which leaves with the fourth round. Assumes nothing.
use Rattle.std.specs.Prelude.{ℕ, ◌≡◌, refl, List, [], ◌∷◌}
use Rattle.steps.specs.Steps.{Table}
use Rattle.steps.specs.Models as models
use Rattle.steps.specs.Models.{circuit}
use Rattle.window.specs.Fresh.{fresh_window}
use Rattle.window.specs.Round.{rounded, committed_edges, escaped_defects}
use Rattle.window.specs.Run.{ran}
use Rattle.window.specs.declared.Window.{Window}
use Rattle.law.specs.Witness.{opened}

-- of each round what it commits, what escapes, and the steps of its run
unfoldable pub session : Table → Window → List (List ℕ) → List (List ℕ × List ℕ × ℕ)
session T w [] = []
session T w (defects ∷ rounds) =
    let r = ran T 65536 (rounded T w defects) in
    (committed_edges T w, escaped_defects w, r.count) ∷ session T r.window rounds

-- a layer's 6 edges, the last one committed or not
abbrev layer : ℕ → List ℕ
layer last = 0 ∷ 0 ∷ 0 ∷ 0 ∷ 0 ∷ last ∷ []

abbrev none : List ℕ
none = 0 ∷ 0 ∷ []

pub diagonal : session circuit (fresh_window circuit (record { height = 1; distance = 3; model = 1 })) ((1 ∷ 0 ∷ []) ∷ (0 ∷ 1 ∷ []) ∷ none ∷ none ∷ [])
    ≡ (layer 0, none, 2) ∷ (layer 0, none, 2) ∷ (layer 0, none, 5) ∷ (layer 1, none, 2) ∷ []
unfolding opened models.circuit session
diagonal = refl
