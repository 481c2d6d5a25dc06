-- AN EDGE OF THE WINDOW, from node to node and back. Assumes nothing.
use Rattle.std.specs.Prelude.{ℕ, ◌≡◌, true, not}
use Rattle.std.proofs.Common.{sym, ◌∙◌, ap}
use Rattle.shape.specs.Sizes.{boundary}
use Rattle.shape.specs.Nodes.{index_of}
use Rattle.shape.proofs.LawsIndex.{index-place, place-index}
use Rattle.steps.specs.Steps.{Table, step, across, slot}
use Rattle.steps.specs.Joins.{Joins}
use Rattle.steps.specs.Proper.{Points, Reversed, points}
use Rattle.steps.proofs.LawsStep.{across-back, joins-back, slot-back}
use Rattle.shape.specs.declared.Place.{Place}
use Rattle.window.specs.Window.{present, place, detector, to}
use Rattle.window.specs.declared.Window.{Window}
use Rattle.steps.specs.Suited.{Suited}
use Rattle.closure.specs.Edges.{edge, edge-near, edge-there, edge_to, edge-slot, edge-detector}

module _ (T : Table) (w : Window) where
  abbrev h : ℕ
  h = w.shape.height

  abbrev d : ℕ
  d = w.shape.distance

  abbrev k : ℕ
  k = present w

  -- from v in direction p
  module _ (v p : ℕ) (e : (to w T p v).there ≡ true) where
    abbrev q : Place
    q = place w v

    abbrev q' : Place
    q' = across (step T p) q

    pub joint : Joins h d k (step T p) q
    joint = edge T h d k p q e

    abbrev u : ℕ
    u = (to w T p v).node

    pub node-place : place w u ≡ q'
    node-place = ap (λ (g : ℕ). place w g) (edge_to T h d k p q joint) ∙ place-index h d k q' joint.to

    pub node-detector : (to w T p v).detector ≡ detector w u
    node-detector = edge-detector T h d k p q joint ∙ ap (λ (x : Place). not (boundary d x.column)) (sym node-place)

    pub direction : Points T p
    direction = points T p joint.moves

    -- and back
    module _ (S : Suited T) where
      abbrev b : ℕ
      b = (step T p).back

      reversed : Reversed (step T p) (step T b)
      reversed = (S.proper.opposed p direction).reversed

      pub joint-back : Joins h d k (step T b) (place w u)
      joint-back = rw node-place (joins-back h d k (step T p) (step T b) reversed q joint)

      pub there_back : (to w T b u).there ≡ true
      there_back = edge-there T h d k b (place w u) joint-back

      pub node-back : (to w T b u).node ≡ v
      node-back =
          edge_to T h d k b (place w u) joint-back
          ∙ ap (λ (x : Place). index_of h d (across (step T b) x)) node-place
          ∙ ap (λ (x : Place). index_of h d x) (across-back h d k (step T p) (step T b) reversed q joint)
          ∙ index-place h d v

      -- the edge has one slot
      pub slot_same : (to w T b u).slot ≡ (to w T p v).slot
      slot_same =
          edge-slot T h d k b (place w u) joint-back
          ∙ ap (λ (x : Place). slot T h d b x) node-place
          ∙ slot-back T S.proper h d k p q q' (edge-near T h d k p q joint)
          ∙ sym (edge-slot T h d k p q joint)
