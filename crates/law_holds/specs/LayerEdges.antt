-- THE EDGES OF A LAYER, and which of them are the window's. Assumes nothing.
use Rattle.std.specs.Prelude.{ℕ, ◌+◌, ◌-◌, ◌≤◌, ◌<◌, ◌≡◌, true}
use Rattle.std.proofs.Common.{arith}
use Rattle.layers.specs.Layers.{edge_of, layer_edges, node_of}
use Rattle.law_holds.specs.Layered.{layered}
use Rattle.shape.specs.Ranges.{Ranged}
use Rattle.shape.proofs.Ranges.{halves, both}
use Rattle.shape.specs.Counting.{Inside}
use Rattle.steps.specs.Steps.{Table, step, namer}
use Rattle.steps.specs.Joins.{Clear}
use Rattle.steps.specs.Proper.{Opposed}
use Rattle.layers.specs.declared.Edge.{Edge}
use Rattle.steps.specs.declared.Step.{Step}
use Rattle.window.specs.Window.{present}
use Rattle.steps.specs.Suited.{Suited, namer-names}
use Rattle.closure.specs.Edges.{edge, edge-there}
use Rattle.law.specs.Law.{Played, height, distance, sheets, last, in_window}
use Rattle.law.specs.Spots.{in_window_lem}
use Rattle.law_holds.specs.Conserved.{edged}

-- the step in which edge i is named: in its sheet, or one up
abbrev pub way : Table → ℕ → ℕ → ℕ → Step
way T h d i = step T (namer T (edge_of T h d i).kind)

module _ (T : Table) (S : Suited T) (h d i : ℕ) (r : Ranged h d) (l : i < layer_edges T h d) where
  abbrev e : Edge
  e = edge_of T h d i

  pub way-opposed : Opposed T (namer T e.kind)
  way-opposed = S.proper.opposed (namer T e.kind) (namer-names T S e.kind ((layered T S).kind h d i r l)).pointer

  pub way_up : (way T h d i).sheet.more ≤ (way T h d i).sheet.less
  way_up = S.upwards e.kind ((layered T S).kind h d i r l)

  -- the end that names the edge is a node in every sheet
  pub named-inside : (s j : ℕ) → j < s → Inside h d s (node_of j e)
  named-inside s j m =
      let rise = way-opposed.rise in
      let f : Clear (way T h d i).sheet (j + 1) = omega (arith, rise) in
      let n : j + 1 < s + 1 = omega arith in
      let q = ((layered T S).edges h d (s + 1) (j + 1) i r l n f).from in
      record { depth = m; row = q.row; column = q.column }

-- the edge is one of the window exactly if its other end is not above the top sheet
pub edged-clear : (T : Table) (p : Played) (n i : ℕ) → edged T p n i ≡ true → Clear (way T (height p) (distance p) i).sheet (last p - n)
edged-clear T p n i x =
    let e = edge_of T (height p) (distance p) i in
    (edge T (height p) (distance p) (present p.window) (namer T e.kind) (node_of (last p - n) e) (halves (in_window p n) _ x).1).sheet

pub edged-there : (T : Table) (p : Played) (n i : ℕ) → edged T p n i ≡ true → last p - n < present p.window
edged-there T p n i x =
    let e = edge_of T (height p) (distance p) i in
    (edge T (height p) (distance p) (present p.window) (namer T e.kind) (node_of (last p - n) e) (halves (in_window p n) _ x).1).from.depth

pub edged-in : (T : Table) → Suited T → (p : Played) → Ranged (height p) (distance p) → (n i : ℕ) → i < layer_edges T (height p) (distance p)
    → n ≤ last p → last p - n < present p.window → Clear (way T (height p) (distance p) i).sheet (last p - n) → edged T p n i ≡ true
edged-in T S p r n i l a b c =
    let e = edge_of T (height p) (distance p) i in
    let b' : last p - n < sheets p = omega arith in
    both _ _ (in_window_lem p n a b')
    (edge-there T (height p) (distance p) (present p.window) (namer T e.kind) (node_of (last p - n) e) ((layered T S).edges (height p) (distance p) (present p.window) (last p - n) i r l b c))
