-- RIDING: where every pointer is C or goes over an open edge, a merging step reads nothing over the other edges. Assumes nothing.
use Rattle.std.specs.Prelude.{ℕ, ◌+◌, ◌-◌, ◌<◌, ◌≡◌, refl, Bool, true, false, ◌&&◌, not, eqb, length, get_or}
use Rattle.std.proofs.Common.{arith, sym, ◌∙◌, ap, subst, eqb-true}
use Rattle.refusal.specs.Laws.{undone}
use Rattle.shape.specs.Choice.{if, whether}
use Rattle.shape.proofs.Ranges.{halves, both}
use Rattle.shape.specs.Nodes.{number_of}
use Rattle.shape.specs.Sizes.{boundary}
use Rattle.steps.specs.Steps.{Table, step}
use Rattle.steps.specs.Suited.{Suited}
use Rattle.window.specs.Lists.{by_place}
use Rattle.window.specs.LawsLists.{and_no, and-not}
use Rattle.window.specs.Window.{size, at, place, detector, to}
use Rattle.window.specs.Merging.{hot, pushes, nothing, stepped, seen, step_at}
use Rattle.window.specs.declared.Node.{Node}
use Rattle.window.specs.declared.Seen.{Seen}
use Rattle.window.specs.declared.Window.{Window}
use Rattle.closure.specs.Facts.{Facts, node-within}
use Rattle.closure.specs.Sight.{seen-edge, seen_none, seen-grown}
use Rattle.closure.specs.Ways.{direction, node-detector, node-back, slot_same, there_back}
use Rattle.shows.specs.Open.{Alike, stepped_same}

-- the edge of pointer p from node g has growth 2
abbrev pub opens : Table → Window → ℕ → ℕ → Bool
opens T w g p = (to w T p g).there && eqb (get_or w.growth (to w T p g).slot 0) 2

-- the node at its other end
abbrev pub neighbour : Table → Window → ℕ → ℕ → Node
neighbour T w g p = at w (to w T p g).node

-- every pointer is C or goes over an open edge
abbrev pub Riding : Table → Window → Type 0
Riding T w = (g : ℕ) → g < size w → ((at w g).pointer ≡ 0 → ⊥) → opens T w g (at w g).pointer ≡ true

-- a defect goes along a pointer: no boundary node has one
abbrev pub sends_along : Node → ℕ → Bool
sends_along n p = n.defect && eqb n.pointer p

-- what is seen over an edge that is open or not
abbrev viewed : Bool → Node → ℕ → Seen
viewed opn n back = if opn (record { there = true; grown = true; active = n.active; pushes = sends_along n back; mark = n.mark }) nothing

abbrev pub glimpse : Table → Window → ℕ → ℕ → Seen
glimpse T w g k = viewed (opens T w g (k + 1)) (neighbour T w g (k + 1)) (step T (k + 1)).back

-- nodes that are one where the edge is open look alike
pub viewed-same : (b : Bool) (x y : Node) (back : ℕ) → (b ≡ true → x ≡ y) → viewed b x back ≡ viewed b y back
viewed-same true x y back q = ap (λ (n : Node). viewed true n back) (q refl)
viewed-same false x y back q = refl

inner : (b x : Bool) → not (b && x) ≡ true → (not b && x) ≡ x
inner true true e = e
inner true false e = refl
inner false x e = refl

grown-viewed : (b : Bool) (n : Node) (back : ℕ) → (viewed b n back).grown ≡ b
grown-viewed true n back = refl
grown-viewed false n back = refl

-- IN EVERY WELL-FORMED WINDOW

module _ (T : Table) (w : Window) (F : Facts T w) where
  -- a hot node is one with a defect
  pub hot-is : (g : ℕ) → g < size w → hot (detector w g) (at w g) ≡ (at w g).defect
  hot-is g l = inner (boundary w.shape.distance (place w g).column) (at w g).defect (F.nodes g l).defect

  pub pushes-is : (g : ℕ) → g < size w → (p : ℕ) → pushes (detector w g) (at w g) p ≡ sends_along (at w g) p
  pushes-is g l p = ap (λ (b : Bool). b && eqb (at w g).pointer p) (hot-is g l)

  pub pushes-over : (g p : ℕ) → (to w T p g).there ≡ true → pushes (to w T p g).detector (neighbour T w g p) (step T p).back ≡ sends_along (neighbour T w g p) (step T p).back
  pushes-over g p e = rw (node-detector T w g p e) (pushes-is (to w T p g).node (node-within T w F.ranged p g e) (step T p).back)

-- AN OPEN EDGE from its other end

module _ (T : Table) (S : Suited T) (w : Window) (g p : ℕ) where
  pub opens_back : (to w T p g).there ≡ true → opens T w (to w T p g).node (step T p).back ≡ true → opens T w g p ≡ true
  opens_back e o =
      both _ _ e (ap (λ (i : ℕ). eqb (get_or w.growth i 0) 2) (sym (slot_same T w g p e S)) ∙ (halves (to w T (step T p).back (to w T p g).node).there _ o).1)

  pub back-opens : opens T w g p ≡ true → opens T w (to w T p g).node (step T p).back ≡ true
  back-opens o =
      let a = halves (to w T p g).there _ o in
      both _ _ (there_back T w g p a.0 S) (ap (λ (i : ℕ). eqb (get_or w.growth i 0) 2) (slot_same T w g p a.0 S) ∙ a.1)

  pub back-node : opens T w g p ≡ true → (to w T (step T p).back (to w T p g).node).node ≡ g
  back-node o = node-back T w g p (halves (to w T p g).there _ o).0 S

-- WHERE POINTERS RIDE

module _ (T : Table) (S : Suited T) (w : Window) (F : Facts T w) (R : Riding T w) (g : ℕ) (l : g < size w) where
  -- nothing is pushed over an edge that is not open
  pub pushed-over : (p : ℕ) → (to w T p g).there ≡ true → opens T w g p ≡ false → sends_along (neighbour T w g p) (step T p).back ≡ false
  pushed-over p e c =
      let u = (to w T p g).node in
      let b = (step T p).back in
      and_no (at w u).defect _
      (whether (eqb (at w u).pointer b)
      (λ t.
      let q : (at w u).pointer ≡ b = eqb-true _ _ t in
      let i = (S.proper.opposed p (direction T w g p e)).back in
      let o : opens T w u b ≡ true = subst (λ (x : ℕ). opens T w u x ≡ true) q (R u (node-within T w F.ranged p g e) (λ z. omega (arith, i.0, q, z))) in
      absurd (undone (sym (opens_back T S w g p e o) ∙ c)))
      (λ t. t))

  seen-pushes : (k : ℕ) → (seen T w g k).pushes ≡ (glimpse T w g k).pushes
  seen-pushes k =
      whether (to w T (k + 1) g).there
      (λ e.
      ap (λ (s : Seen). s.pushes) (seen-edge T w g k e) ∙ pushes-over T w F g (k + 1) e
      ∙ whether (opens T w g (k + 1)) (λ o. rw o) (λ o. rw o (pushed-over (k + 1) e o)))
      (λ e. ap (λ (s : Seen). s.pushes) (seen_none T w g k e) ∙ rw (and-not (to w T (k + 1) g).there (eqb (get_or w.growth (to w T (k + 1) g).slot 0) 2) e))

  -- over an open edge
  seen-open : (k : ℕ) → opens T w g (k + 1) ≡ true → ((seen T w g k).mark ≡ (glimpse T w g k).mark) × ((seen T w g k).active ≡ (glimpse T w g k).active)
  seen-open k o =
      let e = seen-edge T w g k (halves _ _ o).0 in
      (ap (λ (s : Seen). s.mark) e ∙ rw o, ap (λ (s : Seen). s.active) e ∙ rw o)

  alike : (k : ℕ) → Alike (seen T w g k) (glimpse T w g k)
  alike k =
      record {
        grown = seen-grown T w g k ∙ sym (grown-viewed (opens T w g (k + 1)) (neighbour T w g (k + 1)) (step T (k + 1)).back);
        mark = λ e. (seen-open k (sym (seen-grown T w g k) ∙ e)).0;
        pushes = seen-pushes k;
      }

  -- a pointer that is not C
  pub ridden : ((at w g).pointer ≡ 0 → ⊥) → ((at w g).pointer - 1 < length T.steps) × (opens T w g ((at w g).pointer - 1 + 1) ≡ true)
  ridden n =
      let o = R g l n in
      let i = direction T w g (at w g).pointer (halves _ _ o).0 in
      let x : (at w g).pointer - 1 + 1 ≡ (at w g).pointer = omega (arith, i.0) in
      (omega (arith, i.0, i.1), subst (λ (p : ℕ). opens T w g p ≡ true) (sym x) o)

  -- A NODE'S STEP
  pub step-glimpse : step_at T w g ≡ stepped (number_of w.shape.height w.shape.distance (place w g)) (detector w g) (at w g) (by_place (length T.steps) (glimpse T w g))
  unfolding step_at
  step-glimpse =
      stepped_same (seen T w g) (glimpse T w g) (length T.steps) (number_of w.shape.height w.shape.distance (place w g)) (detector w g) (at w g) (λ j x. alike j)
      (λ n. let r = ridden n in (r.0, (seen-open ((at w g).pointer - 1) r.1).1))
