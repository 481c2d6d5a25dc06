-- A WELL-FORMED WINDOW TAKEN APART, and put together. Assumes nothing.
use Rattle.std.specs.Prelude.{ℕ, ◌+◌, ◌*◌, ◌≤◌, ◌<◌, ◌≡◌, refl, List, Bool, false, ◌&&◌, ◌||◌, not, eqb, get_or, drop}
use Rattle.std.proofs.Common.{arith, sym, ◌∙◌, ap}
use Rattle.std.proofs.Math.Bool.{true}
use borrow.Author.Tests.{leb-true, le-leb, ltb-true, ltb-false, lt-ltb, eqb-true, eq-eqb, not-true}
use Rattle.std.proofs.Math.Dec.{ltb}
use Rattle.refusal.specs.Laws.{undone}
use Rattle.shape.specs.Choice.{if-true, if-false, whether}
use Rattle.shape.specs.Ranges.{Ranged}
use Rattle.shape.proofs.Ranges.{ranged, in-range, nodes-of, halves, both}
use Rattle.shape.specs.Sizes.{model_ok, sheets_of, boundary, nodes_in, nodes_of, detectors_of}
use Rattle.shape.specs.Nodes.{index_of, number_of, place_at}
use Rattle.shape.proofs.LawsIndex.{index-lt, index-inside}
use Rattle.shape.specs.LawsNumber.{numbered}
use Rattle.shape.proofs.LawsNumber.{number_lt}
use Rattle.steps.specs.Steps.{Table, step, across, namer, slot_in}
use Rattle.steps.specs.Joins.{Joins}
use Rattle.shape.specs.declared.Place.{Place}
use Rattle.shape.specs.Counting.{Inside, wider}
use Rattle.window.specs.Lists.{every, all}
use Rattle.window.specs.LawsLists.{every-at, every-by}
use Rattle.window.specs.LawsPresent.{supplied-le}
use Rattle.window.specs.Window.{alone, size, supplied, present, pointed, at, place, to}
use Rattle.window.specs.Formed.{is_number, is_fresh, mark_fits, pointer_fits, defect_fits, node_fits, node_fits_at, is_empty, slot_fits_at, unused_node, well_formed}
use Rattle.window.specs.declared.Mark.{Mark}
use Rattle.window.specs.declared.Mark.TheVariants.{Reset, Root}
use Rattle.window.specs.declared.Stage.{Stage}
use Rattle.window.specs.declared.Node.{Node}
use Rattle.window.specs.declared.Window.{Window}
use Rattle.closure.specs.Lists.{either, other, choice}
use Rattle.closure.specs.Edges.{edge, edge-there, edge_to}

-- NODES

-- the place of a node of the window
pub inside-at : (h d : ℕ) → Ranged h d → (g : ℕ) → g < nodes_of h d → Inside h d (sheets_of d) (place_at h d g)
inside-at h d r g l = index-inside h d (sheets_of d) g r.h1 (rw (nodes-of h d r) at l)

pub index-within : (h d : ℕ) → Ranged h d → (q : Place) → Inside h d (sheets_of d) q → index_of h d q < nodes_of h d
index-within h d r q i = rw (nodes-of h d r) (index-lt h d (sheets_of d) q i)

-- a sheet that is there is one of the window
pub present-within : (h d next : ℕ) (q : Place) → Inside h d (supplied d next (sheets_of d)) q → Inside h d (sheets_of d) q
present-within h d next q i = wider h d _ (sheets_of d) q (supplied-le d next (sheets_of d)) i

-- an edge leads to one
pub node-within : (T : Table) (w : Window) → Ranged w.shape.height w.shape.distance → (p g : ℕ) → (to w T p g).there ≡ true → (to w T p g).node < size w
node-within T w r p g e =
    let h = w.shape.height in
    let d = w.shape.distance in
    let j = edge T h d (present w) p (place w g) e in
    rw (edge_to T h d (present w) p (place w g) j) (index-within h d r (across (step T p) (place w g)) (present-within h d w.next _ j.to))

-- a node of the window has a number, which is a mark
pub numbered-at : (h d : ℕ) → Ranged h d → (g : ℕ) → g < nodes_of h d → Inside h d (numbered d) (place_at h d g)
numbered-at h d r g l = wider h d (sheets_of d) (numbered d) (place_at h d g) (omega arith) (inside-at h d r g l)

pub own-lt : (h d : ℕ) → Ranged h d → (g : ℕ) → g < nodes_of h d → number_of h d (place_at h d g) < nodes_in h d (sheets_of d + 1)
own-lt h d r g l = number_lt h d r.d2 (place_at h d g) (numbered-at h d r g l)

-- a pointer: C, or along an edge of k sheets
pub data Pointing (T : Table) (h d k : ℕ) (q : Place) (p : ℕ) : Type 0 where
  centre : p ≡ 0 → Pointing T h d k q p
  along : Joins h d k (step T p) q → Pointing T h d k q p

-- a fresh node, by the test and by its value
fresh-alone : (own : ℕ) (n : Node) → is_fresh own n ≡ true → n ≡ alone own false
fresh-alone own n e =
    let a = halves _ _ e in
    let b = halves _ _ a.0 in
    let c = halves _ _ b.0 in
    let f = halves _ _ c.0 in
    let active = not-true n.active f.0 in
    let defect = not-true n.defect f.1 in
    let unrooted = not-true n.unrooted c.1 in
    let pointer : n.pointer ≡ 0 = eqb-true _ _ b.1 in
    let mark = number_is n.mark a.1 in
    ap {B = Node} (λ (x : Bool). record { active = x; defect = n.defect; unrooted = n.unrooted; pointer = n.pointer; mark = n.mark }) active
    ∙ ap {B = Node} (λ (x : Bool). record { active = false; defect = x; unrooted = n.unrooted; pointer = n.pointer; mark = n.mark }) defect
    ∙ ap {B = Node} (λ (x : Bool). record { active = false; defect = false; unrooted = x; pointer = n.pointer; mark = n.mark }) unrooted
    ∙ ap {B = Node} (λ (x : ℕ). record { active = false; defect = false; unrooted = false; pointer = x; mark = n.mark }) pointer
    ∙ ap {B = Node} (λ (x : Mark). record { active = false; defect = false; unrooted = false; pointer = 0; mark = x }) mark
  where
    number_is : (m : Mark) → is_number own m ≡ true → m ≡ Root own
    number_is Reset e = absurd (undone (sym e))
    number_is (Root m) e = ap Root (eqb-true m own e)

alone-fresh : (own : ℕ) (n : Node) → n ≡ alone own false → is_fresh own n ≡ true
alone-fresh own n e = rw e (eq-eqb own own refl)

pub no-defect : (b : Bool) → not (b && false) ≡ true
no-defect true = refl
no-defect false = refl

module _ (T : Table) (stage : Stage) (h d there led : ℕ) (q : Place) where
  pointing : (p : ℕ) → pointer_fits T h d led q p ≡ true → Pointing T h d led q p
  unfolding pointer_fits
  pointing p e = choice _ _ e (λ b. centre (eqb-true p 0 b)) (λ b. along (edge T h d led p q b))

  pointer-by : (p : ℕ) → Pointing T h d led q p → pointer_fits T h d led q p ≡ true
  unfolding pointer_fits
  pointer-by p (centre e) = either _ _ (eq-eqb p 0 e)
  pointer-by p (along j) = other (eqb p 0) _ (edge-there T h d led p q j)

  pub record Fits (n : Node) : Type 0 where
    pub mark : mark_fits stage (nodes_in h d (sheets_of d + 1)) n.mark ≡ true
    pub pointer : Pointing T h d led q n.pointer
    pub defect : defect_fits d q n.defect ≡ true
    pub absent : there ≤ q.depth → n ≡ alone (number_of h d q) false

  fits : (n : Node) → number_of h d q < nodes_in h d (sheets_of d + 1) → node_fits T stage h d there led q n ≡ true → Fits n
  unfolding node_fits
  fits n own e = whether (ltb q.depth there) is-there is-not
    where
      is-there : ltb q.depth there ≡ true → Fits n
      is-there t =
          let a = halves _ _ (sym (if-true (ltb q.depth there) _ (is_fresh (number_of h d q) n) t) ∙ e) in
          let b = halves _ _ a.0 in
          let l = ltb-true q.depth there t in
          record { mark = b.0; pointer = pointing n.pointer b.1; defect = a.1; absent = λ m. absurd (omega arith) }

      is-not : ltb q.depth there ≡ false → Fits n
      is-not t =
          let z = fresh-alone (number_of h d q) n (sym (if-false (ltb q.depth there) (mark_fits stage (nodes_in h d (sheets_of d + 1)) n.mark && pointer_fits T h d led q n.pointer && defect_fits d q n.defect) _ t) ∙ e) in
          record {
            mark = rw z (lt-ltb _ _ own);
            pointer = centre (ap (λ (x : Node). x.pointer) z);
            defect = rw z (no-defect (boundary d q.column));
            absent = λ m. z;
          }

  fits_by : (n : Node) → Fits n → node_fits T stage h d there led q n ≡ true
  unfolding node_fits
  fits_by n f =
      whether (ltb q.depth there)
      (λ t. if-true (ltb q.depth there) _ _ t ∙ both _ _ (both _ _ f.mark (pointer-by n.pointer f.pointer)) f.defect)
      (λ t. if-false (ltb q.depth there) _ _ t ∙ alone-fresh (number_of h d q) n (f.absent (ltb-false q.depth there t)))

-- SLOTS

pub record Slot (there : Bool) (growth : ℕ) (correction : Bool) : Type 0 where
  pub most : growth ≤ 2
  pub used : (there || is_empty growth && not correction) ≡ true

-- node g's own edge of a kind, with what the lists hold in its slot
abbrev pub SlotOf : Table → Window → ℕ → ℕ → List ℕ → List Bool → Type 0
SlotOf T w g kind growth correction = Slot (to w T (namer T kind) g).there (get_or growth (slot_in (size w) kind g) 0) (get_or correction (slot_in (size w) kind g) false)

-- THE WINDOW

pub record Facts (T : Table) (w : Window) : Type 0 where
  pub ranged : Ranged w.shape.height w.shape.distance
  pub model : model_ok w.shape.model ≡ true
  pub next : sheets_of w.shape.distance ≤ w.next
  pub nodes : (g : ℕ) → g < size w → Fits T w.stage w.shape.height w.shape.distance (present w) (pointed w) (place w g) (at w g)
  pub slots : (g kind : ℕ) → g < size w → kind < T.kinds
      → SlotOf T w g kind w.growth w.correction
  pub unused_nodes : all unused_node (drop (size w) w.nodes) ≡ true
  pub unused_growth : all is_empty (drop (T.kinds * size w) w.growth) ≡ true
  pub unused_correction : all not (drop (T.kinds * size w) w.correction) ≡ true
  pub unused_measured : all not (drop (detectors_of w.shape.height w.shape.distance) w.measured) ≡ true

module _ (T : Table) (w : Window) where
  slot_at : (g kind : ℕ) → slot_fits_at T w g kind ≡ true
      → SlotOf T w g kind w.growth w.correction
  unfolding slot_fits_at
  slot_at g kind e = let a = halves _ _ e in record { most = leb-true _ _ a.0; used = a.1 }

  slot-by : (g kind : ℕ) → SlotOf T w g kind w.growth w.correction
      → slot_fits_at T w g kind ≡ true
  unfolding slot_fits_at
  slot-by g kind s = both _ _ (le-leb _ _ s.most) s.used

  pub facts : well_formed T w ≡ true → Facts T w
  unfolding well_formed
  facts e =
      let z = halves _ _ e in
      let a = halves _ _ z.0 in
      let b = halves _ _ a.0 in
      let c = halves _ _ b.0 in
      let f = halves _ _ c.0 in
      let n = halves _ _ f.0 in
      let r = halves _ _ n.0 in
      let m = halves _ _ r.0 in
      record {
        ranged = ranged _ _ m.0;
        model = m.1;
        next = leb-true _ _ r.1;
        nodes = λ g l. fits T w.stage _ _ _ _ (place w g) (at w g) (own-lt _ _ (ranged _ _ m.0) g l) (every-at (node_fits_at T w) (size w) n.1 g l);
        slots = λ g kind l m. slot_at g kind (every-at (slot_fits_at T w g) T.kinds (every-at (λ i. every T.kinds (slot_fits_at T w i)) (size w) f.1 g l) kind m);
        unused_nodes = c.1;
        unused_growth = b.1;
        unused_correction = a.1;
        unused_measured = z.1;
      }

  pub formed : Facts T w → well_formed T w ≡ true
  unfolding well_formed
  formed f =
      both _ _
      (both _ _
      (both _ _
      (both _ _
      (both _ _
      (both _ _ (both _ _ (both _ _ (in-range _ _ f.ranged) f.model) (le-leb _ _ f.next))
      (every-by (node_fits_at T w) (size w) (λ g l. fits_by T w.stage _ _ _ _ (place w g) (at w g) (f.nodes g l))))
      (every-by (λ i. every T.kinds (slot_fits_at T w i)) (size w) (λ g l. every-by (slot_fits_at T w g) T.kinds (λ kind m. slot-by g kind (f.slots g kind l m)))))
      f.unused_nodes)
      f.unused_growth)
      f.unused_correction)
      f.unused_measured
