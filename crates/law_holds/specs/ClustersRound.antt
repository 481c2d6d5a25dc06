-- ROUND: all clusters move down one sheet, and lose what leaves the window. Assumes nothing.
use Rattle.std.specs.Prelude.{ℕ, ◌+◌, ◌-◌, ◌<◌, ◌≡◌, true, false, ◌&&◌, List, eqb, get_or}
use native.Mathlib.Omega.{arith}
use Rattle.std.proofs.Math.Path.{refl, ap, subst}
use Rattle.std.proofs.Common.{sym, ◌∙◌}
use Rattle.std.proofs.Math.Logic.{⊎_elim}
use borrow.Author.Tests.{eqb-true, eq-eqb}
use Rattle.shape.specs.Choice.{tell, order}
use Rattle.steps.specs.Joins.{Joins}
use Rattle.shape.specs.Nodes.{number_of}
use Rattle.shape.specs.Ranges.{Ranged}
use Rattle.shape.proofs.Ranges.{halves, both}
use Rattle.shape.specs.Sizes.{sheets_of}
use Rattle.steps.specs.Steps.{Table, step, across, falls}
use Rattle.shape.specs.declared.Place.{Place}
use Rattle.window.specs.Round.{lowered_number, lowered, sunk, top_node, rounded}
use Rattle.window.specs.Window.{reach, size, sheet, supplied, present, at, place, bottom, to}
use Rattle.window.specs.declared.Mark.{Mark}
use Rattle.window.specs.declared.Window.{Window}
use Rattle.steps.specs.Suited.{Suited}
use Rattle.closure.specs.Edges.{edge, edge-there, edge_to, edge-slot}
use Rattle.closure.specs.Facts.{Facts, facts, inside-at, index-within, present-within}
use Rattle.closure.specs.After.{orphan, top-at, sunk-at}
use Rattle.closure.specs.Lower.{lower, index-lower, above-lt, above_place, above_depth, joins-lower, joins-present}
use Rattle.closure.specs.LowerNumbers.{number-lowered, number-order}
use Rattle.closure.specs.Closure.{Kept}
use Rattle.law_holds.specs.Nodes.{unrooteds, pointers, marks}
use Rattle.closure.specs.LowerSlots.{across-lower, slot-falls}
use Rattle.law_holds.specs.Graph.{graph, view, Chain, here as arrived, via as over, same, Home, Calm}
use Rattle.law_holds.specs.Fallen.{Ends, centre, out, via, Sunk, Fallen}

module _ (T : Table) (S : Suited T) (w : Window) (defects : List ℕ) (f : Facts T w) (calm : Calm (graph T w) (view w)) where
  abbrev r : Ranged w.shape.height w.shape.distance
  r = f.ranged

  abbrev h : ℕ
  h = w.shape.height

  abbrev d : ℕ
  d = w.shape.distance

  abbrev w' : Window
  w' = rounded T w defects

  -- the sheets that are there after it
  abbrev there' : ℕ
  there' = supplied d (w.next + 1) (sheets_of d)

  top-sunk : (v : ℕ) → v < size w → v < sheet w → Sunk T w' v
  unfolding rounded top_node
  top-sunk v l m =
      let a = top-at T w v l defects m in
      let c = pointers a in
      record {
        number = number_of h d (place w v);
        mark = marks a;
        most = omega arith;
        own = λ e. refl;
        rooted = unrooteds a;
        opn = λ n o. absurd (n c);
        across = λ n o. absurd (n c);
        ends = centre c;
      }

  -- a node that was above: a
  module _ (a : ℕ) (l : a + sheet w < size w) where
    home : Home (graph T w) (view w) a
    home = calm a (above-lt w r a (a + sheet w) refl l)

    moves : place w (a + sheet w) ≡ lower (place w a)
    moves = above_place w r a (a + sheet w) refl l

    sinks : at w' (a + sheet w) ≡ sunk h d (at w a)
    sinks = sunk-at T w (a + sheet w) l defects a refl

    abbrev p : ℕ
    p = (at w a).pointer

    still : (at w' (a + sheet w)).pointer ≡ p
    still = pointers sinks

    mark-sinks : (at w' (a + sheet w)).mark ≡ lowered h d (at w a).mark
    mark-sinks = marks sinks

    -- its pointer, if it is not C, went along an open edge
    module _ (n : p ≡ 0 → ⊥) where
      opens : (graph T w).opn a p ≡ true
      opens = home.opn n

      joins : Joins h d (present w) (step T p) (place w a)
      joins = edge T h d (present w) p (place w a) (halves (to w T p a).there _ opens).0

      abbrev next : ℕ
      next = (graph T w).nb a p

      -- and does so still, if it does not lead out
      module _ (o : orphan T w' (a + sheet w) ≡ false) where
        joins-still : Joins h d there' (step T p) (lower (place w a))
        unfolding rounded
        joins-still =
            let u = f.next in
            let l' = above_depth w r a (a + sheet w) refl l in
            joins-present T S.proper h d (w.next + 1) (present w + 1) (lower (place w a)) p (joins-lower h d (present w) (place w a) (step T p) joins) (omega arith) l'
            (subst (λ (q : Place). (eqb (q.depth + 1) (sheets_of d) && falls T p) ≡ false) moves (ap (λ (n : ℕ). bottom w (a + sheet w) && falls T n) (sym still) ∙ o))

        next-sinks : (graph T w').nb (a + sheet w) p ≡ next + sheet w
        unfolding rounded
        next-sinks =
            rw (moves, edge_to T h d there' p (lower (place w a)) joins-still, edge_to T h d (present w) p (place w a) joins, across-lower (step T p) (place w a) joins.sheet)
            (index-lower h d (across (step T p) (place w a)))

        next-lt : next + sheet w < size w
        unfolding rounded
        next-lt =
            rw (← next-sinks, moves, edge_to T h d there' p (lower (place w a)) joins-still)
            (index-within h d r _ (present-within h d (w.next + 1) _ joins-still.to))

        growth-sinks : get_or w'.growth (reach T h d there' p (lower (place w a))).slot 0 ≡ get_or w.growth (to w T p a).slot 0
        unfolding rounded
        growth-sinks =
            rw (edge-slot T h d there' p (lower (place w a)) joins-still, edge-slot T h d (present w) p (place w a) joins)
            (slot-falls T w r {A = ℕ} 0 w.growth S p (place w a) (present w) (w.next + 1) joins joins-still)

        opens_still : (graph T w').opn (a + sheet w) p ≡ true
        unfolding rounded
        opens_still =
            rw moves
            (both _ _ (edge-there T h d there' p (lower (place w a)) joins-still)
            (eq-eqb _ 2 (growth-sinks ∙ eqb-true _ 2 (halves (to w T p a).there _ opens).1)))

        mark-across : (at w' (next + sheet w)).mark ≡ (at w' (a + sheet w)).mark
        mark-across =
            marks (sunk-at T w (next + sheet w) next-lt defects next refl) ∙ ap (λ (m : Mark). lowered h d m) (home.across p opens) ∙ sym mark-sinks

  -- pointers lead where they led, one sheet down
  ends : (a t : ℕ) → a + sheet w < size w → Chain (graph T w) (view w) a t → Ends T w' (a + sheet w)
  ends a t l (arrived e) = centre (still a l ∙ e)
  ends a t l (over n c) =
      ⊎_elim out
      (λ o. via (λ e. n (sym (still a l) ∙ e)) (rw (still a l, next-sinks a l n o) (ends (next a l n) t (next-lt a l n o) c)))
      (tell (orphan T w' (a + sheet w)))

  below-sunk : (a : ℕ) → a + sheet w < size w → Sunk T w' (a + sheet w)
  unfolding rounded
  below-sunk a l =
      let H = home a l in
      let root = H.root in
      let e = number-lowered h d (place w root) (inside-at h d r root H.inside) in
      record {
        number = lowered_number h d ((graph T w).num root);
        mark = mark-sinks a l ∙ ap (λ (m : Mark). lowered h d m) H.mark;
        most = rw (moves a l, e) (number-order h d r.d2 (place w root) (place w a) (inside-at h d r root H.inside) (inside-at h d r a (above-lt w r a (a + sheet w) refl l)) (H.least a same));
        own = λ c. rw (moves a l) (e ∙ ap (λ (v : ℕ). number_of h d (lower (place w v))) (sym (H.only a same (sym (still a l) ∙ c))));
        rooted = unrooteds (sinks a l);
        opn = λ n o. rw (still a l) (opens_still a l (λ e. n (still a l ∙ e)) o);
        across = λ n o. let m : p a l ≡ 0 → ⊥ = λ e. n (still a l ∙ e) in rw (still a l, next-sinks a l m o) (mark-across a l m o);
        ends = ends a root l H.chain;
      }

  fallen : Fallen T w'
  unfolding rounded
  fallen v l =
      ⊎_elim (λ m. top-sunk v l m)
      (λ m. let e : v - sheet w + sheet w ≡ v = omega arith in subst (λ (n : ℕ). Sunk T w' n) e (below-sunk (v - sheet w) (rw e l)))
      (order v (sheet w))

pub round-fallen : (T : Table) → Suited T → (w : Window) (defects : List ℕ) → Kept T w → Calm (graph T w) (view w) → Fallen T (rounded T w defects)
round-fallen T S w defects k calm = fallen T S w defects (facts T w k.formed) calm
