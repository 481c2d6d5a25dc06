-- Where a round of the result is refused: what passes it is refused the same, and the reader stays. Assumes nothing.
use Rattle.std.specs.Prelude.{ℕ, ◌≡◌, true, List, length, take}
use Rattle.std.proofs.Common.{length-take-le}
use Rattle.std.proofs.lemmas.Grind.{common_steps}
use Rattle.refusal.specs.Answer.{turned, without_value, next_or}
use Rattle.refusal.specs.Laws.{turned-passed, turned-next}
use Rattle.refusal.specs.declared.Refusal.{Refusal}
use Rattle.shape.specs.Sizes.{max_layer_edges, max_detectors, in_range, detectors_of, layer_edges_of}
use Rattle.shape.proofs.LawsSizes.{detectors-le, layer-le}
use Rattle.shape.proofs.Ranges.{ranged}
use Rattle.scan.specs.Passed.{steps-passed}

-- what is read is refused as what is passed
pub passed-refusal : (f : Refusal) → without_value (turned {A = ℕ} f) ≡ turned f
passed-refusal f = turned-passed ℕ f

-- and the reader stays for either
pub read_stays : (f : Refusal) (at : ℕ) → next_or (turned {A = ℕ} f) at ≡ at
read_stays f at = turned-next ℕ f at

pub passed_stays : (f : Refusal) (at : ℕ) → next_or (turned {A = Unit {0}} f) at ≡ at
passed_stays f at = turned-next (Unit {0}) f at

-- the buffers have the lengths that are asked
pub layer-long : (m h d : ℕ) (xs : List ℕ) → in_range h d ≡ true → length xs ≡ max_layer_edges → length (take (layer_edges_of m h d) xs) ≡ layer_edges_of m h d
layer-long m h d xs e l = length-take-le _ _ (rw l (layer-le m h d (ranged h d e)))

pub sheet-long : (h d : ℕ) (xs : List ℕ) → in_range h d ≡ true → length xs ≡ max_detectors → length (take (detectors_of h d) xs) ≡ detectors_of h d
sheet-long h d xs e l = length-take-le _ _ (rw l (detectors-le h d (ranged h d e)))

pub ruleset refusing = (common_steps, passed-refusal, steps-passed, read_stays, passed_stays, layer-long, sheet-long)
