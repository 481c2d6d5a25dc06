-- GROW keeps a window well-formed. Assumes nothing.
use Rattle.std.specs.Prelude.{ℕ, ◌+◌, ◌-◌, ◌*◌, ◌<◌, min, ◌≡◌, refl, Bool, true, false, ◌&&◌, get_or}
use Rattle.std.proofs.Math.Nat.{min-le_left, min-le_right}
use Rattle.std.proofs.Common.{sym, ◌∙◌, ap, ⊎_elim}
use Rattle.refusal.specs.Laws.{undone}
use Rattle.shape.specs.Choice.{if-false, tell}
use Rattle.shape.specs.Sizes.{sheets_of}
use Rattle.shape.specs.Nodes.{number_of}
use Rattle.steps.specs.Steps.{Table, falls, namer, slot_in}
use Rattle.steps.specs.Proper.{Proper}
use Rattle.window.specs.LawsLists.{and_no}
use Rattle.window.specs.Lists.{bit}
use Rattle.window.specs.Window.{alone, size, led_to, present, pointed, at, place, bottom, to}
use Rattle.window.specs.Grow.{gains, grown_slot, grown_node, grown}
use Rattle.window.specs.Formed.{mark_fits, is_empty, unused_node, well_formed}
use Rattle.window.specs.declared.Mark.{Mark}
use Rattle.window.specs.declared.Mark.TheVariants.{Reset, Root}
use Rattle.window.specs.declared.Stage.{Stage}
use Rattle.window.specs.declared.Stage.TheVariants.{Merging}
use Rattle.window.specs.declared.Node.{Node}
use Rattle.window.specs.declared.Way.{Way}
use Rattle.window.specs.declared.Window.{Window}
use Rattle.closure.specs.Lists.{all-over}
use Rattle.closure.specs.Sized.{Sized, nodes-over, growth-over}
use Rattle.closure.specs.Facts.{Pointing, centre, along, Fits, Slot, Facts, facts, formed, SlotOf, inside-at}
use Rattle.closure.specs.Lower.{joins-present}
use Rattle.closure.specs.After.{orphan, cut_at, uncut-at, grown-slot}

-- every mark fits in stage merging, if it did in some stage
mark-merging : (stage : Stage) (n : ℕ) (m : Mark) → mark_fits stage n m ≡ true → mark_fits Merging n m ≡ true
mark-merging stage n Reset e = refl
mark-merging stage n (Root m) e = e

-- growth at most 2, and none without an edge
gains-fits : (r : Way) (old : ℕ) (here other : Node) (c : Bool) → Slot r.there old c → Slot r.there (gains r old here other) c
gains-fits r old here other c s = go r.there refl
  where
    go : (b : Bool) → r.there ≡ b → Slot r.there (gains r old here other) c
    go true e =
        rw e (record { most = min-le_left 2 (old + bit here.active + bit other.active); used = refl })
    go false e = rw (if-false r.there (min 2 (old + bit here.active + bit other.active)) old e) s

module _ (T : Table) (P : Proper T) (w : Window) where
  abbrev h : ℕ
  h = w.shape.height

  abbrev d : ℕ
  d = w.shape.distance

  -- a pointer out of the window is cut, so that none is left
  kept : (g p : ℕ) → (place w g).depth < sheets_of d → (bottom w g && falls T p) ≡ false → Pointing T h d (pointed w) (place w g) p → Pointing T h d (present w) (place w g) p
  kept g p l e (centre z) = centre z
  kept g p l e (along j) = along (joins-present T P h d w.next (pointed w) (place w g) p j (min-le_right (led_to d w.stage) (w.next - sheets_of d)) l e)

  -- no absent node is cut
  no-orphan : (g : ℕ) → at w g ≡ alone (number_of h d (place w g)) false → orphan T w g ≡ false
  no-orphan g e = and_no (bottom w g) _ (ap (λ (n : Node). falls T n.pointer) e)

  module _ (f : Facts T w) where
    node-fits : (g : ℕ) → g < size w → Fits T Merging h d (present w) (present w) (place w g) (at (grown T w) g)
    node-fits g l =
        let n = f.nodes g l in
        let i = (inside-at h d f.ranged g l).depth in
        ⊎_elim
        (λ e. rw (cut_at T w g l e) (record { mark = refl; pointer = centre refl; defect = n.defect; absent = λ m. absurd (undone (sym e ∙ no-orphan g (n.absent m))) }))
        (λ e.
        rw (uncut-at T w g l e)
        (record {
          mark = mark-merging w.stage _ (at w g).mark n.mark;
          pointer = kept g (at w g).pointer i e n.pointer;
          defect = n.defect;
          absent = n.absent;
        }))
        (tell (orphan T w g))

    slot-fits : (g kind : ℕ) → g < size w → kind < T.kinds → SlotOf T w g kind (grown T w).growth w.correction
    slot-fits g kind l m =
        let e = slot_in (size w) kind g in
        let way = to w T (namer T kind) g in
        rw (grown-slot T w g kind l m) (gains-fits way (get_or w.growth e 0) (at w g) (at w way.node) (get_or w.correction e false) (f.slots g kind l m))

    grown-facts : Facts T (grown T w)
    unfolding grown
    grown-facts =
        record {
          ranged = f.ranged;
          model = f.model;
          next = f.next;
          nodes = node-fits;
          slots = slot-fits;
          unused_nodes = all-over unused_node (grown_node T w) (size w) w.nodes f.unused_nodes;
          unused_growth = all-over is_empty (grown_slot T w) (T.kinds * size w) w.growth f.unused_growth;
          unused_correction = f.unused_correction;
          unused_measured = f.unused_measured;
        }

  pub grow : well_formed T w ≡ true → well_formed T (grown T w) ≡ true
  grow e = formed T (grown T w) (grown-facts (facts T w e))

module _ (T : Table) (w : Window) where
  pub grow-sized : Sized T w → Sized T (grown T w)
  unfolding grown
  grow-sized s = record { nodes = nodes-over w T s (grown_node T w); growth = growth-over w T s (grown_slot T w); correction = s.correction; measured = s.measured }
