-- BOTH ENDS COUNT: a law whose committed edges counted at the end that names them alone would be false. Document 01's tie refutes it. Assumes
-- nothing.
use Rattle.std.specs.Prelude.{ℕ, ◌+◌, ◌%◌, ◌≡◌, refl, ◌&&◌}
use Rattle.std.proofs.Common.{arith, ap}
use Rattle.layers.specs.Layers.{edge_of, layer_edges}
use Rattle.steps.specs.Steps.{base}
use Rattle.window.specs.Lists.{bit}
use Rattle.law.specs.Law.{Played, Spot, Detector, near_end, same, sum, height, distance, last, received, committed, pending, standing, escaped, ending}
use Rattle.law.specs.Witness.{Terms, terms, spot, tie, opened, met}

-- committed edges, counted at the end that names them alone
abbrev pub once : Played → Spot → ℕ
once p a = sum (last p + 1) (λ n. sum (layer_edges base (height p) (distance p)) (λ i. bit (committed p n i && same (near_end n (edge_of base (height p) (distance p) i)) a)))

abbrev pub OneEnded : Played → Type 0
OneEnded p = (a : Spot) → Detector p a → received p a % 2 ≡ (once p a + ending base p (pending base p) a + bit (standing p a) + bit (escaped p a)) % 2

detector : Detector (tie 3) spot
unfolding opened
detector = record { supplied = omega arith; arrived = omega arith; row = omega arith; west = omega arith; east = omega arith }

none : once (tie 3) spot ≡ 0
unfolding opened
none = refl

pub refuted : OneEnded (tie 3) → ⊥
refuted c =
    let e : received (tie 3) spot % 2 ≡ (once (tie 3) spot + ending base (tie 3) (pending base (tie 3)) spot + bit (standing (tie 3) spot) + bit (escaped (tie 3) spot)) % 2 = c spot detector in
    let of : (f : Terms → ℕ) → f (terms (tie 3) spot) ≡ f _ = λ f. ap f met.commits in
    let z : ◌≡◌ {A = ℕ} 1 0 = rw (of (λ t. t.received), none, of (λ t. t.pending), of (λ t. t.standing), of (λ t. t.escaped)) at e in
    absurd (omega arith)
