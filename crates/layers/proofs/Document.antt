-- THE DOCUMENTS' NUMBERS OF A LAYER, for all shapes: document 01's formulas for model 0, those of S-4 for model 1, as the numbering of any table gives them.
-- Assumes nothing.
use Prim.Native.Nat.{ℕ, zero, suc, ◌+◌, ◌-◌, ◌*◌, ◌≤◌, ◌<◌}
use Rattle.std.proofs.Common.{arith, sym, ◌∙◌, ap}
use Rattle.std.specs.Prelude.{◌≡◌, eqb}
use Rattle.std.proofs.Math.Path.{refl}
use Rattle.shape.specs.Choice.{if-true, if-false, whether}
use Rattle.shape.proofs.Ranges.{both}
use Rattle.shape.specs.Sizes.{plain_edges, layer_edges_of}
use Rattle.steps.specs.Steps.{Table, base, naming}
use Rattle.steps.specs.Ranks.{rank}
use Rattle.steps.specs.Models.{circuit, of_model}
use Rattle.steps.proofs.Models.{of-circuit, of-base, suited-base, suited-circuit}
use Rattle.layers.specs.Layer.{edge_number0, edge_of0}
use Rattle.layers.specs.LawsLayer.{Has0, along, between, above}
use Rattle.layers.proofs.LawsLayer.{number-has0, number-edge0}
use Rattle.layers.specs.Layers.{spans, edge_number, edge_of, layer_edges}
use Rattle.layers.proofs.Layers.{Has, edge-number}
use Rattle.layers.specs.Boxes.{named, areas, row_first, column_first, columns}
use Rattle.layers.proofs.Boxes.{within_by, spans-box, number-closed, count-closed}
use Rattle.layers.specs.declared.Edge.{Edge}

-- MODEL 0

module _ (h d : ℕ) where
  row-0 : h - 0 - 0 ≡ h
  row-0 = omega arith

  row-1 : h - 1 - 0 ≡ h - 1
  row-1 = omega arith

  col-e : d + 1 - 1 - 0 ≡ d
  col-e = omega arith

  col-t : d - 0 - 1 ≡ d - 1
  col-t = omega arith

  -- there are as many as document 01 says
  pub count-0 : layer_edges base h d ≡ plain_edges h d
  unfolding base naming areas
  count-0 = count-closed base suited-base h d ∙ rw (row-0, row-1, col-e, col-t) (omega arith)

  plain : (x : ℕ) → x - 0 ≡ x
  plain x = omega arith

  -- and they have document 01's numbers
  closed-0 : (k r c : ℕ) → k < 3
      → areas base h d k + (r - row_first (named base k)) * columns d (named base k) + (c - column_first (named base k))
      ≡ edge_number0 h d (record { kind = k; row = r; column = c })
  unfolding base naming areas edge_number0
  closed-0 zero r c l = rw (plain r, plain c, col-e) (omega arith)
  closed-0 (suc zero) r c l = rw (plain r, row-0, col-e, col-t) (omega arith)
  closed-0 (suc (suc zero)) r c l = rw (plain r, row-0, row-1, col-e, col-t) (omega arith)
  closed-0 (suc (suc (suc k))) r c l = absurd (omega arith)

  pub number-0 : (e : Edge) → Has base h d e → edge_number base h d e ≡ edge_number0 h d e
  unfolding base
  number-0 e H = number-closed base suited-base h d e H ∙ closed-0 e.kind e.row e.column H.kind

-- so document 01's edge of a number is the table's: the code's division stays as it is
module _ (h d : ℕ) (d2 : 2 ≤ d) where
  has-0 : (e : Edge) → Has0 h d e → Has base h d e
  unfolding base naming
  has-0 _ (along r c a b) =
      record { kind = omega arith; there = spans-box h d (named base 0) refl r c ∙ both _ _ (within_by _ _ r (omega arith) (omega arith)) (within_by _ _ c (omega arith) (omega arith)) }
  has-0 _ (between r c a b m) =
      record { kind = omega arith; there = spans-box h d (named base 1) refl r c ∙ both _ _ (within_by _ _ r (omega arith) (omega arith)) (within_by _ _ c (omega arith) (omega arith)) }
  has-0 _ (above r c a b m) =
      record { kind = omega arith; there = spans-box h d (named base 2) refl r c ∙ both _ _ (within_by _ _ r (omega arith) (omega arith)) (within_by _ _ c (omega arith) (omega arith)) }

  pub edge-0 : (i : ℕ) → i < plain_edges h d → edge_of base h d i ≡ edge_of0 h d i
  edge-0 i l =
      let e = edge_of0 h d i in
      let H = has-0 e (number-has0 h d d2 i l) in
      ap (edge_of base h d) (sym (number-0 h d e H ∙ number-edge0 h d d2 i l)) ∙ edge-number base h d e H

-- MODEL 1

module _ (h d : ℕ) where
  abbrev pub edge_number1 : ℕ → ℕ → ℕ → ℕ
  edge_number1 zero r c = r * d + c
  edge_number1 (suc zero) r c = h * d + r * (d - 1) + (c - 1)
  edge_number1 (suc (suc zero)) r c = h * d + (h - 1) * (d - 1) + r * (d - 1) + (c - 1)
  edge_number1 (suc (suc (suc zero))) r c = plain_edges h d + (r - 1) * (d - 1) + (c - 1)
  edge_number1 (suc (suc (suc (suc zero)))) r c = plain_edges h d + (h - 1) * (d - 1) + r * (d - 2) + (c - 1)
  edge_number1 (suc (suc (suc (suc (suc k))))) r c = plain_edges h d + (h - 1) * (d - 1) + h * (d - 2) + r * (d - 2) + (c - 1)

  row_n : h - 0 - 1 ≡ h - 1
  row_n = omega arith

  col-d : d - 1 - 1 ≡ d - 2
  col-d = omega arith

  pub count-1 : layer_edges circuit h d ≡ layer_edges_of 1 h d
  unfolding circuit naming areas
  count-1 = count-closed circuit suited-circuit h d ∙ rw (row-0 h d, row-1 h d, row_n, col-e h d, col-t h d, col-d) (omega arith)

  closed-1 : (k r c : ℕ) → k < 6
      → areas circuit h d k + (r - row_first (named circuit k)) * columns d (named circuit k) + (c - column_first (named circuit k))
      ≡ edge_number1 k r c
  unfolding circuit naming areas
  closed-1 zero r c l = rw (plain h d r, plain h d c, col-e h d) (omega arith)
  closed-1 (suc zero) r c l = rw (plain h d r, row-0 h d, col-e h d, col-t h d) (omega arith)
  closed-1 (suc (suc zero)) r c l = rw (plain h d r, row-0 h d, row-1 h d, col-e h d, col-t h d) (omega arith)
  closed-1 (suc (suc (suc zero))) r c l = rw (row-0 h d, row-1 h d, col-e h d, col-t h d) (omega arith)
  closed-1 (suc (suc (suc (suc zero)))) r c l = rw (plain h d r, row-0 h d, row-1 h d, row_n, col-e h d, col-t h d, col-d) (omega arith)
  closed-1 (suc (suc (suc (suc (suc zero))))) r c l = rw (plain h d r, row-0 h d, row-1 h d, row_n, col-e h d, col-t h d, col-d) (omega arith)
  closed-1 (suc (suc (suc (suc (suc (suc k)))))) r c l = absurd (omega arith)

  pub number-1 : (e : Edge) → Has circuit h d e → edge_number circuit h d e ≡ edge_number1 e.kind e.row e.column
  unfolding circuit
  number-1 e H = number-closed circuit suited-circuit h d e H ∙ closed-1 e.kind e.row e.column H.kind

-- THE COUNT, by the model
pub count-model : (m h d : ℕ) → layer_edges (of_model m) h d ≡ layer_edges_of m h d
count-model m h d =
    whether (eqb m 1)
    (λ e. ap (λ (T : Table). layer_edges T h d) (of-circuit m e) ∙ count-1 h d ∙ sym (if-true _ _ _ e))
    (λ e. ap (λ (T : Table). layer_edges T h d) (of-base m e) ∙ count-0 h d ∙ sym (if-false _ _ _ e))

-- A 3 BY 3 LAYER: 19 edges in model 0, 28 in model 1; 15 by 15: 631 and 1,204
pub printed : (layer_edges base 3 3 ≡ 19) × (layer_edges circuit 3 3 ≡ 28) × (layer_edges base 15 15 ≡ 631) × (layer_edges circuit 15 15 ≡ 1204)
printed = (count-0 3 3, count-1 3 3, count-0 15 15, count-1 15 15)

-- the same by counting through
pub counted : (layer_edges base 3 3 ≡ 19) × (layer_edges circuit 3 3 ≡ 28)
unfolding base circuit rank naming spans layer_edges
counted = (refl, refl)
