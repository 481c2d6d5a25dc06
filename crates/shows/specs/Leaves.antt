-- WHAT LEAVES with a round, read by entries. Assumes nothing.
use Rattle.std.specs.Prelude.{ℕ, zero, suc, ◌+◌, ◌-◌, ◌*◌, ◌/◌, ◌%◌, ◌≤◌, ◌<◌, ◌≡◌, false, List, ◌∷◌, get_or}
use Rattle.std.proofs.Math.Nat.{mod-lt, mul-add, add-mul, mul_comm}
use Rattle.std.proofs.Common.{div-lt_iff_lt-mul, mul-one, mul_assoc, sym, ◌∙◌, ap₂}
use native.Mathlib.Omega.{arith}
use Rattle.std.proofs.Math.Path.{refl, ap}
use Rattle.shape.specs.Nodes.{index_of}
use Rattle.shape.specs.Ranges.{Ranged}
use Rattle.shape.proofs.Ranges.{nodes-of}
use Rattle.shape.specs.Sizes.{sheets_of, detectors_of}
use Rattle.steps.specs.Steps.{Table, step, namer}
use Rattle.layers.specs.Layers.{node_of, edge_of, layer_edges}
use Rattle.layers.proofs.Layers.{number-has, spans-inside}
use Rattle.window.specs.Lists.{from, by_place, bit}
use Rattle.window.specs.Round.{edge_slot, detector_at, committed_edges, escaped_defects}
use Rattle.window.specs.Window.{size, sheet, at}
use Rattle.window.specs.declared.Node.{Node}
use Rattle.window.specs.declared.Window.{Window}
use Rattle.closure.specs.Facts.{index-within}
use Rattle.flat.specs.Entries.{State, margin, entry, cell}
use Rattle.shows.specs.Shows.{Shows}

-- two rules that agree below n give one list
from-same {ℓ} : {A : Type ℓ} (f f' : ℕ → A) (n i : ℕ) → ((j : ℕ) → i ≤ j → j < i + n → f j ≡ f' j) → from i n f ≡ from i n f'
unfolding from
from-same f f' zero i e = refl
from-same {A = A} f f' (suc n) i e = ap₂ (λ (x : A) (l : List A). x ∷ l) (e i (omega arith) (omega arith)) (from-same f f' n (suc i) (λ j a b. e j (omega arith) (omega arith)))

by-same {ℓ} : {A : Type ℓ} (f f' : ℕ → A) (n : ℕ) → ((j : ℕ) → j < n → f j ≡ f' j) → by_place n f ≡ by_place n f'
unfolding by_place
by-same f f' n e = from-same f f' n 0 (λ j a b. e j (omega arith))

-- the cell of the ith edge of the bottom layer
abbrev pub leaving_at : Table → ℕ → ℕ → ℕ → ℕ
leaving_at T h d i = cell (edge_of T h d i).kind (entry (index_of h d (node_of (sheets_of d - 1) (edge_of T h d i))))

module _ (T : Table) (w : Window) (r : Ranged w.shape.height w.shape.distance) (st : State) (H : Shows T w st) where
  abbrev h : ℕ
  h = w.shape.height

  abbrev d : ℕ
  d = w.shape.distance

  naming-lt : (i : ℕ) → i < layer_edges T h d → index_of h d (node_of (sheets_of d - 1) (edge_of T h d i)) < size w
  naming-lt i l =
      let n = number-has T h d r.h1 i l in
      let s = spans-inside h d (step T (namer T (edge_of T h d i).kind)) (edge_of T h d i).row (edge_of T h d i).column n.there in
      index-within h d r _ (record { depth = omega arith; row = s.0; column = s.1 })

  -- by any table of those cells
  pub committed-shown : (place : ℕ → ℕ) → ((i : ℕ) → i < layer_edges T h d → place i ≡ leaving_at T h d i)
      → committed_edges T w ≡ by_place (layer_edges T h d) (λ i. bit (st.correction (place i)))
  unfolding committed_edges
  committed-shown place e =
      by-same {A = ℕ} (λ i. bit (get_or w.correction (edge_slot h d (sheets_of d - 1) (edge_of T h d i)) false)) (λ i. bit (st.correction (place i))) (layer_edges T h d)
      (λ i l. ap bit (sym (ap st.correction (e i l) ∙ H.correction (edge_of T h d i).kind _ (number-has T h d r.h1 i l).kind (naming-lt i l))))

  -- the entry of a node of the bottom sheet, by its row and its column
  bottom-entry : (row column : ℕ) → entry (index_of h d (record { depth = sheets_of d - 1; row = row; column = column })) ≡ margin + size w - sheet w + (row * (d + 1) + column)
  unfolding index_of
  bottom-entry row column =
      let s = sheets_of d - 1 in
      let a = nodes-of h d r in
      let b : sheets_of d ≡ s + 1 = omega arith in
      let c : h * (d + 1) * (s + 1) ≡ h * (d + 1) * s + h * (d + 1) = mul-add (h * (d + 1)) s 1 ∙ rw (mul-one (h * (d + 1))) refl in
      let e : size w ≡ h * (d + 1) * s + h * (d + 1) = a ∙ ap (λ (x : ℕ). h * (d + 1) * x) b ∙ c in
      let f : (s * h + row) * (d + 1) ≡ h * (d + 1) * s + row * (d + 1) = spread s h row (d + 1) in
      omega arith
    where
      spread : (s h r w : ℕ) → (s * h + r) * w ≡ h * w * s + r * w
      spread s h r w = add-mul (s * h) r w ∙ ap (λ (x : ℕ). x + r * w) (mul_assoc s h w ∙ mul_comm s (h * w))

  pub escaped-shown : escaped_defects w ≡ by_place (detectors_of h d) (λ i. bit (st.defect (margin + size w - sheet w + (i / (d - 1) * (d + 1) + (i % (d - 1) + 1)))))
  unfolding escaped_defects
  escaped-shown =
      by-same {A = ℕ} (λ i. bit (at w (index_of h d (detector_at d (sheets_of d - 1) i))).defect) (λ i. bit (st.defect (margin + size w - sheet w + (i / (d - 1) * (d + 1) + (i % (d - 1) + 1))))) (detectors_of h d)
      (λ i l.
      let two = r.d2 in
      let some : 0 < d - 1 = omega arith in
      let row : i / (d - 1) < h = (div-lt_iff_lt-mul some).1 l in
      let m = mod-lt i some in
      let column : i % (d - 1) + 1 ≤ d = omega arith in
      let n = H.nodes _ (index-within h d r (detector_at d (sheets_of d - 1) i) (record { depth = omega arith; row = row; column = column })) in
      ap bit (ap (λ (y : Node). y.defect) (sym n) ∙ ap st.defect (bottom-entry (i / (d - 1)) (i % (d - 1) + 1))))
