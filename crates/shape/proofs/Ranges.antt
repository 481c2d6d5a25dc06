-- A shape that is in range, and what its numbers are then at most. Assumes nothing.
use Rattle.std.specs.Prelude.{ℕ, ◌≤◌, ◌≡◌, refl, Bool, true, false, ◌&&◌, [], ◌∷◌, leb}
use Rattle.std.proofs.Common.{leb-true, le-leb, arith}
use Rattle.refusal.specs.Answer.{done}
use Rattle.refusal.specs.Tests.{pass-one, pass-none}
use Rattle.shape.specs.Sizes.{max_height, max_distance, in_range, height_ok, distance_ok, model_ok, IsShape, shape_of, sheets_of, nodes_in, nodes_of, max_sheets}
use Rattle.shape.specs.Choice.{if-true}
use Rattle.shape.specs.declared.Shape.{Shape}
use Rattle.shape.specs.Ranges.{Ranged}

-- both halves of a test
pub halves : (a b : Bool) → a && b ≡ true → (a ≡ true) × (b ≡ true)
halves true b e = (refl, e)
halves false b e = (cc, cc)

pub both : (a b : Bool) → a ≡ true → b ≡ true → a && b ≡ true
both a b p q = rw (p, q) refl

pub height-ok : (h : ℕ) → height_ok h ≡ true → (1 ≤ h) × (h ≤ max_height)
height-ok h e = let p = halves (leb 1 h) (leb h max_height) e in (leb-true 1 h p.0, leb-true h max_height p.1)

pub distance-ok : (d : ℕ) → distance_ok d ≡ true → (2 ≤ d) × (d ≤ max_distance)
distance-ok d e = let p = halves (leb 2 d) (leb d max_distance) e in (leb-true 2 d p.0, leb-true d max_distance p.1)

pub model-ok : (m : ℕ) → model_ok m ≡ true → m ≤ 1
model-ok m e = leb-true m 1 e

pub ranged : (h d : ℕ) → in_range h d ≡ true → Ranged h d
ranged h d e =
    let p = halves (height_ok h) (distance_ok d) e in
    let a = height-ok h p.0 in
    let b = distance-ok d p.1 in
    record { h1 = a.0; h-max = a.1; d2 = b.0; d-max = b.1 }

pub in-range : (h d : ℕ) → Ranged h d → in_range h d ≡ true
in-range h d r =
    both (height_ok h) (distance_ok d) (both (leb 1 h) (leb h max_height) (le-leb 1 h r.h1) (le-leb h max_height r.h-max))
    (both (leb 2 d) (leb d max_distance) (le-leb 2 d r.d2) (le-leb d max_distance r.d-max))

pub sheets-le : (d : ℕ) → d ≤ max_distance → sheets_of d ≤ max_sheets
sheets-le d l = omega arith

pub nodes-of : (h d : ℕ) → Ranged h d → nodes_of h d ≡ nodes_in h d (sheets_of d)
nodes-of h d r = if-true (in_range h d) (nodes_in h d (sheets_of d)) 0 (in-range h d r)

-- such a shape is not refused
pub shape-accepted : (sh : Shape) → IsShape sh → shape_of sh.height sh.distance sh.model ≡ done sh 0
shape-accepted sh range =
    let r = halves (height_ok sh.height) (distance_ok sh.distance) range.sizes in
    pass-one (height_ok sh.height) 1 ((distance_ok sh.distance, 2) ∷ (model_ok sh.model, 31) ∷ []) r.0
    (pass-one (distance_ok sh.distance) 2 ((model_ok sh.model, 31) ∷ []) r.1 (pass-one (model_ok sh.model) 31 [] range.model pass-none)) Shape (done sh 0)
