-- A LAYER'S NUMBERING AND ITS TABLE, for every table that suits: the edges of the numbers are those that the nodes of a sheet name. Assumes nothing.
use Rattle.std.specs.Prelude.{ℕ, ◌<◌, ◌≡◌, true}
use Rattle.shape.specs.Ranges.{Ranged}
use Rattle.shape.specs.declared.Place.{Place}
use Rattle.steps.specs.Steps.{Table, step, namer}
use Rattle.steps.specs.Joins.{Clear, Joins}
use Rattle.steps.specs.Suited.{Suited}
use Rattle.layers.specs.Layers.{edge_number, edge_of, layer_edges, edge_by, node_of}
use Rattle.layers.proofs.Layers.{number-has, has_named, number-edge, named-has, edge-number}
use Rattle.layers.proofs.Layers as layers

pub record Layered (T : Table) : Type 0 where
  -- edge i of the layer at depth j, where its other end is not above the top sheet
  pub kind : (h d i : ℕ) → Ranged h d → i < layer_edges T h d → (edge_of T h d i).kind < T.kinds
  pub edges : (h d k j i : ℕ) → Ranged h d → i < layer_edges T h d → j < k → Clear (step T (namer T (edge_of T h d i).kind)).sheet j
      → Joins h d k (step T (namer T (edge_of T h d i).kind)) (node_of j (edge_of T h d i))
  pub numbered : (h d i : ℕ) → Ranged h d → i < layer_edges T h d → edge_number T h d (edge_of T h d i) ≡ i
  -- and there are no others
  pub number_lt : (h d k p : ℕ) (q : Place) → Joins h d k (step T p) q → (step T p).own ≡ true → edge_number T h d (edge_by T p q) < layer_edges T h d
  pub number_of : (h d k p : ℕ) (q : Place) → Joins h d k (step T p) q → (step T p).own ≡ true → edge_of T h d (edge_number T h d (edge_by T p q)) ≡ edge_by T p q

pub layered : (T : Table) → Suited T → Layered T
layered T S =
    record {
      kind = λ h d i r l. (number-has T h d r.h1 i l).kind;
      edges = λ h d k j i r l m f. has_named T S h d k j (edge_of T h d i) (number-has T h d r.h1 i l) m f;
      numbered = λ h d i r l. number-edge T h d r.h1 i l;
      number_lt = λ h d k p q j o. layers.number_lt T h d (edge_by T p q) (named-has T S h d k p q j o);
      number_of = λ h d k p q j o. edge-number T h d (edge_by T p q) (named-has T S h d k p q j o);
    }
