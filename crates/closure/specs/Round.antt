-- ROUND keeps a window well-formed. Assumes nothing.
use Rattle.std.specs.Prelude.{ℕ, ◌+◌, ◌-◌, ◌*◌, ◌≤◌, ◌<◌, ◌≡◌, refl, Bool, true, ◌&&◌, List, get_or}
use Rattle.std.proofs.Common.{arith, sym, ◌∙◌, ap, subst, ltb-true, lt-ltb, eq-eqb}
use Rattle.std.proofs.Math.Bool.{false, not}
use Rattle.std.proofs.Math.Logic.{⊎_elim}
use Rattle.refusal.specs.Laws.{undone}
use Rattle.shape.specs.Choice.{tell, order}
use Rattle.shape.specs.Nodes.{number_of}
use Rattle.steps.specs.Joins.{Joins}
use Rattle.shape.specs.Sizes.{sheets_of, boundary, nodes_in}
use Rattle.steps.specs.Steps.{Table, step, across, namer, slot_in}
use Rattle.window.specs.Lists.{over}
use Rattle.window.specs.Window.{alone, is_rest, reach, size, sheet, supplied, present, pointed, at, place, to}
use Rattle.steps.specs.Suited.{Suited}
use Rattle.window.specs.Round.{lowered, sunk, top_node, fallen_node, at_top, fallen_slot, rounded}
use Rattle.window.specs.Formed.{mark_fits, is_empty, unused_node, well_formed}
use Rattle.window.specs.declared.Mark.{Mark}
use Rattle.window.specs.declared.Mark.TheVariants.{Reset, Root}
use Rattle.window.specs.declared.Stage.{Stage}
use Rattle.window.specs.declared.Stage.TheVariants.{ToGrow}
use Rattle.window.specs.declared.Window.{Window}
use Rattle.closure.specs.Lists.{all-over, choice, either, other}
use Rattle.closure.specs.States.{rest-not-merging, rest-led}
use Rattle.closure.specs.Sized.{Sized, nodes-over, growth-over, correction-over}
use Rattle.closure.specs.Edges.{edge, edge-there}
use Rattle.closure.specs.Facts.{Pointing, centre, along, Fits, Slot, Facts, facts, formed, inside-at}
use Rattle.closure.specs.After.{top-at, sunk-at, top-slot, sunk-slot}
use Rattle.closure.specs.Lower.{lower, above-lt, above_place, above_depth, top, joins-lower, joins-in, lowered-lt}
use Rattle.closure.specs.LowerNumbers.{number-lowered}
use Rattle.closure.specs.Fresh.{alone-fits, empty}

-- at rest no mark is reset
mark-lowered : (stage : Stage) (h d : ℕ) (m : Mark) → is_rest stage ≡ true → 1 ≤ d → mark_fits stage (nodes_in h d (sheets_of d + 1)) m ≡ true
    → mark_fits ToGrow (nodes_in h d (sheets_of d + 1)) (lowered h d m) ≡ true
mark-lowered stage h d Reset st d1 e = absurd (rest-not-merging stage st e)
mark-lowered stage h d (Root m) st d1 e = lt-ltb _ _ (lowered-lt h d m d1 (ltb-true m (nodes_in h d (sheets_of d + 1)) e))

-- a boundary receives no defect
top-fits : (b x : Bool) → not (b && (not b && x)) ≡ true
top-fits true x = refl
top-fits false x = refl

module _ (T : Table) (S : Suited T) (w : Window) (defects : List ℕ) (f : Facts T w) (st : is_rest w.stage ≡ true) where
  abbrev h : ℕ
  h = w.shape.height

  abbrev d : ℕ
  d = w.shape.distance

  -- the sheets that are there after it, and those that pointers lead to
  abbrev there' : ℕ
  there' = supplied d (w.next + 1) (sheets_of d)

  abbrev led' : ℕ
  led' = supplied d (w.next + 1) (sheets_of d + 1)

  -- one sheet more, since those that pointers led to fall
  led-more : pointed w + 1 ≡ led'
  led-more = let b = f.next in rw (rest-led d w.stage st) (omega arith)

  -- a node below the top, and the one above it
  module _ (g : ℕ) (l : g < size w) (m : sheet w ≤ g) where
    abbrev above : ℕ
    above = g - sheet w

    above-is : g ≡ above + sheet w
    above-is = omega arith

    moves : place w g ≡ lower (place w above)
    moves = above_place w f.ranged above g above-is l

    within : (place w above).depth + 1 < sheets_of d
    within = above_depth w f.ranged above g above-is l

    pointer-fits : (p : ℕ) → Pointing T h d (pointed w) (place w above) p → Pointing T h d led' (lower (place w above)) p
    pointer-fits p (centre e) = centre e
    pointer-fits p (along j) = along (subst (λ (n : ℕ). Joins h d n (step T p) (lower (place w above))) led-more (joins-lower h d (pointed w) (place w above) (step T p) j))

    -- an absent node that falls is fresh again
    stays-absent : (at w above ≡ alone (number_of h d (place w above)) false) → sunk h d (at w above) ≡ alone (number_of h d (lower (place w above))) false
    stays-absent e =
        let i = inside-at h d f.ranged above (above-lt w f.ranged above g above-is l) in
        ap (sunk h d) e ∙ ap (λ (m : ℕ). alone m false) (number-lowered h d (place w above) i)

    sunk-fits : Fits T ToGrow h d there' led' (place w g) (sunk h d (at w above))
    sunk-fits =
        let n = f.nodes above (above-lt w f.ranged above g above-is l) in
        rw moves
        (record {
          mark = mark-lowered w.stage h d (at w above).mark st (omega (arith, f.ranged.d2)) n.mark;
          pointer = pointer-fits (at w above).pointer n.pointer;
          defect = n.defect;
          absent = λ m. stays-absent (n.absent (let i = within in omega arith));
        })

    -- an edge that falls with the end that names it is one still
    falls-on : (kind : ℕ) → kind < T.kinds → (to w T (namer T kind) above).there ≡ true → (reach T h d there' (namer T kind) (place w g)).there ≡ true
    unfolding across
    falls-on kind k e =
        let p = namer T kind in
        let j = edge T h d (present w) p (place w above) e in
        let u = S.upwards kind k in
        let i = within in
        let x = j.from.depth in
        let b = f.next in
        edge-there T h d there' p (place w g)
        (rw moves (joins-in h d (present w + 1) there' (lower (place w above)) (step T p) (joins-lower h d (present w) (place w above) (step T p) j) (omega arith) (omega arith)))

    slot-falls : (kind growth : ℕ) (c : Bool) → kind < T.kinds → Slot (to w T (namer T kind) above).there growth c
        → Slot (reach T h d there' (namer T kind) (place w g)).there growth c
    slot-falls kind growth c k s =
        record {
          most = s.most;
          used = choice _ _ s.used (λ e. either _ _ (falls-on kind k e)) (λ e. other (reach T h d there' (namer T kind) (place w g)).there _ e);
        }

  node-fits : (g : ℕ) → g < size w → Fits T ToGrow h d there' led' (place w g) (at (rounded T w defects) g)
  unfolding top_node
  node-fits g l =
      ⊎_elim
      (λ m.
      let z = top h d g f.ranged.h1 m in
      let b = f.next in
      rw (top-at T w g l defects m)
      (alone-fits T ToGrow h d there' led' f.ranged g l _ (top-fits (boundary d (place w g).column) _) (λ x. absurd (omega arith))))
      (λ m. rw (sunk-at T w g l defects (above g l m) (above-is g l m)) (sunk-fits g l m))
      (order g (sheet w))

  -- SLOTS

  below : (g kind : ℕ) → at_top T w g (namer T kind) ≡ false → sheet w ≤ g
  below g kind e =
      ⊎_elim (λ m. absurd (undone (sym (either _ _ (eq-eqb _ _ (top h d g f.ranged.h1 m))) ∙ e))) (λ m. m) (order g (sheet w))

  slot-fits : (g kind : ℕ) → g < size w → kind < T.kinds
      → Slot (reach T h d there' (namer T kind) (place w g)).there
      (get_or (over (T.kinds * size w) (fallen_slot T w 0 w.growth) w.growth) (slot_in (size w) kind g) 0)
      (get_or (over (T.kinds * size w) (fallen_slot T w false w.correction) w.correction) (slot_in (size w) kind g) false)
  slot-fits g kind l m =
      ⊎_elim (λ e. empty _ _ _ (top-slot T w g kind l m {A = ℕ} 0 w.growth e) (top-slot T w g kind l m false w.correction e))
      (λ e.
      let n = below g kind e in
      let a = above g l n in
      let x = above-is g l n in
      rw (sunk-slot T w g kind l m {A = ℕ} 0 w.growth a x e, sunk-slot T w g kind l m false w.correction a x e)
      (slot-falls g l n kind _ _ m (f.slots a kind (above-lt w f.ranged a g x l) m)))
      (tell (at_top T w g (namer T kind)))

  rounded-facts : Facts T (rounded T w defects)
  unfolding rounded
  rounded-facts =
      record {
        ranged = f.ranged;
        model = f.model;
        next = omega (arith, f.next);
        nodes = node-fits;
        slots = slot-fits;
        unused_nodes = all-over unused_node (fallen_node w defects) (size w) w.nodes f.unused_nodes;
        unused_growth = all-over is_empty (fallen_slot T w 0 w.growth) (T.kinds * size w) w.growth f.unused_growth;
        unused_correction = all-over not (fallen_slot T w false w.correction) (T.kinds * size w) w.correction f.unused_correction;
        unused_measured = f.unused_measured;
      }

module _ (T : Table) (w : Window) (defects : List ℕ) where
  pub round : Suited T → well_formed T w ≡ true → is_rest w.stage ≡ true → well_formed T (rounded T w defects) ≡ true
  round S e st = formed T (rounded T w defects) (rounded-facts T S w defects (facts T w e) st)

  pub round-sized : Sized T w → Sized T (rounded T w defects)
  unfolding rounded
  round-sized s =
      record {
        nodes = nodes-over w T s (fallen_node w defects);
        growth = growth-over w T s (fallen_slot T w 0 w.growth);
        correction = correction-over w T s (fallen_slot T w false w.correction);
        measured = s.measured;
      }
