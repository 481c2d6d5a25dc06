-- How large a sheet and a layer can be. Assumes nothing.
use Rattle.std.specs.Prelude.{ℕ, ◌-◌, ◌≤◌, eqb}
use Rattle.std.proofs.Common.{mul-le-mul, arith}
use Rattle.shape.specs.Choice.{whether}
use Rattle.shape.specs.Sizes.{max_height, max_distance, detectors_of, plain_edges, diagonal_edges, layer_edges_of, max_detectors, max_layer_edges}
use Rattle.shape.specs.Ranges.{Ranged}

pub detectors-le : (h d : ℕ) → Ranged h d → detectors_of h d ≤ max_detectors
detectors-le h d r = let b : d - 1 ≤ max_distance - 1 = omega (arith, r.d-max) in mul-le-mul r.h-max b

plain-le : (h d : ℕ) → Ranged h d → plain_edges h d ≤ plain_edges max_height max_distance
plain-le h d r =
    let a : h - 1 ≤ max_height - 1 = omega (arith, r.h-max) in
    let b : d - 1 ≤ max_distance - 1 = omega (arith, r.d-max) in
    omega (arith, mul-le-mul r.h-max r.d-max, mul-le-mul a b, mul-le-mul r.h-max b)

diagonal-le : (h d : ℕ) → Ranged h d → diagonal_edges h d ≤ diagonal_edges max_height max_distance
diagonal-le h d r =
    let a : h - 1 ≤ max_height - 1 = omega (arith, r.h-max) in
    let b : d - 1 ≤ max_distance - 1 = omega (arith, r.d-max) in
    let c : d - 2 ≤ max_distance - 2 = omega (arith, r.d-max) in
    omega (arith, mul-le-mul a b, mul-le-mul r.h-max c, mul-le-mul a c)

pub layer-le : (m h d : ℕ) → Ranged h d → layer_edges_of m h d ≤ max_layer_edges
layer-le m h d r =
    let p = plain-le h d r in
    let q = diagonal-le h d r in
    whether (eqb m 1) (λ t. rw t (omega arith)) (λ t. rw t (omega arith))
