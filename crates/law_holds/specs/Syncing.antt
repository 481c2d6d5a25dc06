-- SYNCING in a merging step: where a node's activity comes from, who sends a defect to it, and that no defect moves where every one is on a
-- root. Assumes nothing.
use Rattle.std.specs.Prelude.{ℕ, ◌+◌, ◌-◌, ◌≤◌, ◌<◌, ◌≡◌, Bool, true, false, ◌&&◌, not, List, eqb, length, get_or}
use Rattle.std.proofs.Common.{arith, sym, ◌∙◌, ap, ap₂, eqb-true, eq-eqb, ne_eqb}
use Rattle.refusal.specs.Laws.{undone}
use Rattle.shape.specs.Choice.{if-true, if-false, whether}
use Rattle.shape.proofs.Ranges.{halves, both}
use Rattle.steps.specs.Steps.{Table, step}
use Rattle.steps.specs.Suited.{Suited}
use Rattle.window.specs.Lists.{by_place, xor}
use Rattle.window.specs.LawsLists.{get_or-by, and_no}
use Rattle.window.specs.Window.{size, at, detector, to}
use Rattle.window.specs.Merging.{nothing, synced_active, sends, arrivals, synced_defect, seen}
use Rattle.window.specs.declared.Seen.{Seen}
use Rattle.window.specs.declared.Window.{Window}
use Rattle.closure.specs.Facts.{facts, node-within}
use Rattle.closure.specs.Sight.{seen-edge, seen_none}
use Rattle.closure.specs.Ways.{direction, there_back, node-back, node-detector}
use Rattle.closure.specs.Closure.{Kept}
use Rattle.law.specs.Bits.{xor-none}
use Rattle.law_holds.specs.Sums.{parity-none, arrivals-sum}
use Rattle.law_holds.specs.Graph.{Graph, Laws, State, graph, view, hot, Points, pointed}

module _ (g : Graph) (s : State) where
  -- a hot node that points at v
  pub record Sender (v : ℕ) : Type 0 where
    pub from : ℕ
    pub inside : from < g.n
    pub is_hot : hot g s from ≡ true
    pub points : Points g s from
    pub here : pointed g s from ≡ v

  -- every hot node is a root
  abbrev pub OnRoots : Type 0
  OnRoots = (v : ℕ) → v < g.n → hot g s v ≡ true → s.pointer v ≡ 0

-- a node, hot or not (x), with pointer p sends nothing: exactly if it is a root or not hot
module _ (x : Bool) (p : ℕ) where
  pub sends-not : (x && not (eqb p 0)) ≡ false → x ≡ true → p ≡ 0
  sends-not e h = whether (eqb p 0) (λ z. eqb-true p 0 z) (λ z. absurd (undone (sym (both x (not (eqb p 0)) h (ap not z)) ∙ e)))

  pub not-sent : (x ≡ true → p ≡ 0) → (x && not (eqb p 0)) ≡ false
  not-sent h = whether x (λ e. and_no x _ (ap not (eq-eqb p 0 (h e)))) (λ e. rw e)

-- ACTIVITY

module _ (p : ℕ) (is_hot : Bool) (ss : List Seen) where
  pub active-centre : p ≡ 0 → synced_active p is_hot ss ≡ is_hot
  unfolding synced_active
  active-centre e = if-true (eqb p 0) is_hot (get_or ss (p - 1) nothing).active (eq-eqb p 0 e)

  pub active-along : 1 ≤ p → synced_active p is_hot ss ≡ (get_or ss (p - 1) nothing).active
  unfolding synced_active
  active-along l = if-false (eqb p 0) is_hot (get_or ss (p - 1) nothing).active (ne_eqb p 0 (λ e. omega arith))

module _ (T : Table) (w : Window) where
  -- what node v sees in all directions
  abbrev pub sights : ℕ → List Seen
  sights v = by_place (length T.steps) (seen T w v)

  -- over an open edge it sees the activity of the node there
  pub seen-active : Laws (graph T w) → (v : ℕ) → v < size w → (p : ℕ) → (graph T w).opn v p ≡ true → (get_or (sights v) (p - 1) nothing).active ≡ (at w (to w T p v).node).active
  seen-active L v l p o =
      let e = (halves (to w T p v).there _ o).0 in
      let d = L.dir v p l o in
      let q : p - 1 + 1 ≡ p = omega (arith, d.0) in
      ap (λ (y : Seen). y.active) (get_or-by (seen T w v) (length T.steps) (p - 1) nothing (omega (arith, d.0, d.1)))
      ∙ ap (λ (y : Seen). y.active) (seen-edge T w v (p - 1) (rw q e))
      ∙ ap (λ (i : ℕ). (at w (to w T i v).node).active) q

  -- DEFECTS

  module _ (S : Suited T) (k : Kept T w) where
    -- a neighbour that pushes is hot, and its pointer leads here
    pub pushed : (v j : ℕ) → (seen T w v j).pushes ≡ true → Sender (graph T w) (view w) v
    pushed v j e =
        whether (to w T (j + 1) v).there
        (λ t.
        let u = (to w T (j + 1) v).node in
        let b = (step T (j + 1)).back in
        let d = direction T w u b (there_back T w v (j + 1) t S) in
        let x : (hot (graph T w) (view w) u && eqb (at w u).pointer b) ≡ true
        = rw (node-detector T w v (j + 1) t) at (sym (ap (λ (s : Seen). s.pushes) (seen-edge T w v j t)) ∙ e) in
        let y = halves (hot (graph T w) (view w) u) _ x in
        let z : (at w u).pointer ≡ b = eqb-true _ _ y.1 in
        record {
          from = u;
          inside = node-within T w (facts T w k.formed).ranged (j + 1) v t;
          is_hot = y.0;
          points = λ q. omega (arith, d.0);
          here = ap (λ (i : ℕ). (to w T i u).node) z ∙ node-back T w v (j + 1) t S;
        })
        (λ t. absurd (undone (sym e ∙ ap (λ (s : Seen). s.pushes) (seen_none T w v j t))))

    -- WHERE EVERY DEFECT IS ON A ROOT no neighbour pushes, nothing arrives, and a defect stays
    module _ (R : OnRoots (graph T w) (view w)) where
      none-pushed : (v j : ℕ) → (seen T w v j).pushes ≡ false
      none-pushed v j = whether (seen T w v j).pushes (λ e. let x = pushed v j e in absurd (x.points (R x.from x.inside x.is_hot))) (λ e. e)

      pub defect-stays : (v : ℕ) → v < size w → synced_defect (detector w v) (at w v) (sights v) ≡ (at w v).defect
      defect-stays v l =
          let none : arrivals (sights v) false ≡ false = arrivals-sum (seen T w v) (length T.steps) ∙ parity-none (λ j. (seen T w v j).pushes) (length T.steps) (λ j i. none-pushed v j) in
          let sent : sends (detector w v) (at w v) ≡ false = not-sent (hot (graph T w) (view w) v) (at w v).pointer (R v l) in
          ap₂ (λ (x y : Bool). xor (xor (at w v).defect x) y) sent (and_no (detector w v) _ none)
          ∙ xor-none (xor (at w v).defect false)
          ∙ xor-none (at w v).defect
