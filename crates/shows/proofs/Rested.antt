-- A WINDOW AT REST IN WHICH EVERY NODE IS QUIET: after round and grow only these can do anything in the first step: new defects, ends of
-- edges that opened, bottom nodes that were cut, and what lies over their open edges. So a list of those covers it. Assumes nothing.
use Rattle.std.specs.Prelude.{ℕ, ◌+◌, ◌<◌, ◌≡◌, Bool, ◌&&◌, not, List, eqb}
use Rattle.std.proofs.Math.Path.{sym, ap}
use Rattle.std.proofs.Common.{◌∙◌}
use Rattle.std.proofs.Math.Bool.{true, false}
use Rattle.refusal.specs.Laws.{undone}
use Rattle.shape.specs.Choice.{whether}
use Rattle.shape.proofs.Ranges.{halves}
use Rattle.steps.specs.Steps.{Table, step}
use Rattle.steps.specs.Suited.{Suited}
use Rattle.window.specs.Grow.{grown}
use Rattle.window.specs.LawsLists.{and_no}
use Rattle.window.specs.Round.{lowered, lowered_number, sunk, top_node, rounded}
use Rattle.window.specs.Window.{is_rest, size, sheet, at, to}
use Rattle.window.specs.declared.Node.{Node}
use Rattle.window.specs.declared.Window.{Window}
use Rattle.closure.specs.After.{orphan, top-at, sunk-at, cut_at, uncut-at}
use Rattle.closure.specs.Closure.{Kept, kept-round, kept-grow}
use Rattle.closure.specs.Facts.{Facts, facts, node-within}
use Rattle.shows.specs.Riding.{opens, neighbour, Riding, back-opens, back-node}
use Rattle.shows.specs.Quiet.{Covers, AllQuiet}
use Rattle.shows.specs.Rested.{OpenedListed, NearListed}
use Rattle.shows.specs.Calm.{Calm, Silent}
use Rattle.shows.proofs.Calm.{calm-quiet, quiet-silent, quiet_calm}
use Rattle.shows.proofs.Grown.{riding-grown}
use Rattle.shows.proofs.Lowered.{by-sheet, above, top-shut, open-lower, node-lower, aloft-round}

module _ (T : Table) (S : Suited T) (w : Window) (k : Kept T w) (rest : is_rest w.stage ≡ true) (R : Riding T w) (Q : AllQuiet T w) (bytes : List ℕ) (listed : ℕ → Bool)
    (new : (g : ℕ) → g < size w → g < sheet w → (at (rounded T w bytes) g).defect ≡ true → listed g ≡ true)
    (opened : OpenedListed T w bytes listed)
    (cut : (g : ℕ) → g < size w → orphan T (rounded T w bytes) g ≡ true → listed g ≡ true)
    (near : NearListed T w bytes listed) where
  abbrev w₁ : Window
  w₁ = rounded T w bytes

  abbrev w₂ : Window
  w₂ = grown T w₁

  abbrev h : ℕ
  h = w.shape.height

  abbrev d : ℕ
  d = w.shape.distance

  abbrev F : Facts T w
  F = facts T w k.formed

  k₁ : Kept T w₁
  k₁ = kept-round T S w k bytes rest

  F₂ : Facts T w₂
  F₂ = facts T w₂ (kept-grow T S w₁ k₁).formed

  R₂ : Riding T w₂
  R₂ = riding-grown T S w₁ k₁ (aloft-round T S w k bytes R)

  -- NO NODE SENDS: a quiet one did not, and new nodes and cut ones have pointer C
  abbrev sent : Node → Bool
  sent n = n.defect && not (eqb n.pointer 0)

  centred : (n : Node) → n.pointer ≡ 0 → sent n ≡ false
  centred n e = and_no n.defect _ (ap (λ (p : ℕ). not (eqb p 0)) e)

  silent : Silent w₂
  unfolding grown rounded top_node
  silent g l =
      whether (orphan T w₁ g)
      (λ o. centred (at w₂ g) (ap (λ (y : Node). y.pointer) (cut_at T w₁ g l o)))
      (λ o.
      ap sent (uncut-at T w₁ g l o)
      ∙ by-sheet T S w k bytes g
      (λ x. centred (at w₁ g) (ap (λ (y : Node). y.pointer) (top-at T w g l bytes x)))
      (λ a x. ap sent (sunk-at T w g l bytes a x) ∙ quiet-silent T S w F R Q a (above T S w k bytes a g l x)))

  -- a node that was not cut is the one above it, moved down
  below : (a g : ℕ) → g < size w → g ≡ a + sheet w → orphan T w₁ g ≡ false → at w₂ g ≡ sunk h d (at w a)
  unfolding rounded
  below a g l e o = uncut-at T w₁ g l o ∙ sunk-at T w g l bytes a e

  -- A NODE THAT IS NOT LISTED
  module _ (g : ℕ) (l : g < size w) (n : listed g ≡ false) where
    uncut : orphan T w₁ g ≡ false
    uncut = whether (orphan T w₁ g) (λ o. absurd (undone (sym (cut g l o) ∙ n))) (λ o. o)

    -- its open edges were open before
    was-open : (p : ℕ) → opens T w₂ g p ≡ true → opens T w₁ g p ≡ true
    was-open p o = whether (opens T w₁ g p) (λ t. t) (λ t. absurd (undone (sym (opened g p l t o) ∙ n)))

    -- and nothing over them was cut
    near-uncut : (p : ℕ) → opens T w₂ g p ≡ true → orphan T w₁ (to w₂ T p g).node ≡ false
    unfolding grown rounded
    near-uncut p o =
        let u = (to w₂ T p g).node in
        let lu = node-within T w₂ F₂.ranged p g (halves (to w₂ T p g).there _ o).0 in
        whether (orphan T w₁ u) (λ c. absurd (undone (sym (near u (step T p).back lu c (back-opens T S w₂ g p o)) ∙ ap listed (back-node T S w₂ g p o) ∙ n))) (λ c. c)

    -- of the top sheet: fresh, and without open edges
    top-calm : g < sheet w → Calm T w₂ g
    unfolding grown rounded top_node
    top-calm x =
        let e = top-at T w g l bytes x in
        let here = uncut-at T w₁ g l uncut in
        let none : (at w₁ g).defect ≡ false = whether (at w₁ g).defect (λ t. absurd (undone (sym (new g l x t) ∙ n))) (λ t. t) in
        record {
          number = _;
          mark = ap (λ (y : Node). y.mark) (here ∙ e);
          level = λ p o. absurd (undone (sym (was-open p o) ∙ top-shut T S w k bytes g p l x));
          alone = λ z. ap (λ (y : Node). y.active) (here ∙ e) ∙ sym (ap (λ (y : Node). y.defect) here ∙ none);
          led = λ z. absurd (z (ap (λ (y : Node). y.pointer) (here ∙ e)));
        }

    -- any other: as calm as the node above it was
    low-calm : (a : ℕ) → g ≡ a + sheet w → Calm T w₂ g
    unfolding grown rounded
    low-calm a e =
        let c = quiet_calm T S w F R Q a (above T S w k bytes a g l e) in
        let here = below a g l e uncut in
        let over : (p : ℕ) → opens T w₂ g p ≡ true → neighbour T w₂ g p ≡ sunk h d (neighbour T w a p)
        = λ p o. below (to w T p a).node (to w₂ T p g).node (node-within T w₂ F₂.ranged p g (halves (to w₂ T p g).there _ o).0) (node-lower T S w k bytes a g p l e (was-open p o)) (near-uncut p o) in
        let led-by : (at w₂ g).pointer ≡ (at w a).pointer = ap (λ (y : Node). y.pointer) here in
        record {
          number = lowered_number h d c.number;
          mark = ap (λ (y : Node). y.mark) here ∙ ap (lowered h d) c.mark;
          level = λ p o. ap (λ (y : Node). y.mark) (over p o) ∙ ap (lowered h d) (c.level p (open-lower T S w k bytes a g p l e (was-open p o)));
          alone = λ z. ap (λ (y : Node). y.active) here ∙ c.alone (sym led-by ∙ z) ∙ sym (ap (λ (y : Node). y.defect) here);
          led = λ z.
              ap (λ (y : Node). y.active) (over (at w₂ g).pointer (R₂ g l z)) ∙ ap (λ (p : ℕ). (neighbour T w a p).active) led-by ∙ c.led (λ y. z (led-by ∙ y))
              ∙ sym (ap (λ (y : Node). y.active) here);
        }

  pub rested-covers : Covers T (grown T (rounded T w bytes)) listed
  unfolding grown rounded
  rested-covers g l n = calm-quiet T S w₂ F₂ R₂ g l silent (by-sheet T S w k bytes g (top-calm g l n) (low-calm g l n))
