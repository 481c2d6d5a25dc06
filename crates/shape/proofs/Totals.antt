-- The document's products and sums of nodes, as counts of places. Assumes nothing.
use Rattle.std.specs.Prelude.{ℕ, ◌+◌, ◌-◌, ◌*◌, ◌≤◌, ◌≡◌}
use Rattle.std.proofs.Common.{mul_comm, mul_assoc, add-mul, mul-add, arith, sym, ◌∙◌, ap}
use Rattle.shape.specs.Sizes.{nodes_in}
use Rattle.shape.specs.Nodes.{count_in, boundary_number, boundary_nodes, detector_number}
use Rattle.shape.specs.declared.Place.{Place}
use Rattle.shape.specs.Totals.{inwards, sideways}

-- k sheets of h rows of w entries
pub by-sheets : (h w k : ℕ) → h * w * k ≡ k * h * w
by-sheets h w k = mul_comm (h * w) k ∙ sym (mul_assoc k h w)

pub twice : (h k : ℕ) → 2 * h * k ≡ k * h * 2
twice h k = ap (λ (n : ℕ). n * k) (mul_comm 2 h) ∙ by-sheets h 2 k

-- boundary nodes and detectors make all nodes
pub total : (h d k : ℕ) → 1 ≤ d → nodes_in h d k ≡ 2 * h * k + k * h * (d - 1)
total h d k l =
    let e : d + 1 ≡ 2 + (d - 1) = omega arith in
    ap (λ (n : ℕ). h * n * k) e
    ∙ ap (λ (n : ℕ). n * k) (mul-add h 2 (d - 1))
    ∙ add-mul (h * 2) (h * (d - 1)) k
    ∙ ap (λ (n : ℕ). n * k + h * (d - 1) * k) (mul_comm h 2)
    ∙ ap (λ (n : ℕ). 2 * h * k + n) (by-sheets h (d - 1) k)

pub boundary-count : (h : ℕ) (q : Place) → boundary_number h q ≡ count_in h 2 (sideways q)
boundary-count h q =
    let a = add-mul (q.depth * h) q.row 2 in
    let b = twice h q.depth in
    omega (arith, a, b)

pub detector-count : (h d : ℕ) (q : Place) → detector_number h d q ≡ boundary_nodes h d + count_in h (d - 1) (inwards q)
detector-count h d q =
    let a = add-mul (q.depth * h) q.row (d - 1) in
    let b = by-sheets h (d - 1) q.depth in
    let c = mul_comm (d - 1) q.row in
    omega (arith, a, b, c)
