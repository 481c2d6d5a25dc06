-- ROUND, edge by edge: an edge that is not new stands one sheet lower as it stood, and a new one has not grown. So pointers over open edges
-- stay over open edges, but for those that lead out at the bottom. Assumes nothing.
use Rattle.std.specs.Prelude.{ℕ, ◌+◌, ◌-◌, ◌≤◌, ◌<◌, min, ◌≡◌, Bool, ◌&&◌, ◌||◌, List}
use native.Mathlib.Omega.{arith}
use Rattle.std.proofs.Math.Path.{refl, sym, ap, ap₂, subst}
use Rattle.std.proofs.Common.{◌∙◌}
use Rattle.std.proofs.Math.Bool.{true, false}
use Rattle.std.proofs.Math.Logic.{⊎_elim}
use borrow.Author.Tests.{eqb-true, eqb-false, eq-eqb}
use Rattle.std.proofs.Math.Dec.{eqb}
use Rattle.std.proofs.Math.ListN.{get_or}
use Rattle.refusal.specs.Laws.{undone}
use Rattle.shape.specs.Choice.{if, whether, order}
use Rattle.shape.specs.Nodes.{index_of}
use Rattle.shape.proofs.Ranges.{halves, both}
use Rattle.shape.specs.Sizes.{sheets_of}
use Rattle.shape.specs.declared.Place.{Place}
use Rattle.steps.specs.Joins.{Joins, Clear}
use Rattle.steps.proofs.LawsStep.{across-back}
use Rattle.steps.specs.Steps.{Table, step, goes, across, falls, namer}
use Rattle.steps.specs.Suited.{Suited, namer-back}
use Rattle.steps.specs.declared.Step.{Step}
use Rattle.window.specs.Round.{at_top, top_node, rounded}
use Rattle.window.specs.Window.{size, sheet, present, at, place, bottom, to}
use Rattle.window.specs.declared.Node.{Node}
use Rattle.window.specs.declared.Window.{Window}
use Rattle.closure.specs.After.{top-at, sunk-at, top-slot, sunk-slot}
use Rattle.closure.specs.Closure.{Kept}
use Rattle.closure.specs.Edges.{edge, edge-there, edge_to, edge-slot}
use Rattle.closure.specs.Facts.{Facts, facts, node-within}
use Rattle.closure.specs.Lists.{either, other}
use Rattle.closure.specs.Lower.{lower, index-lower, above-lt, above_place, above_depth, joins-lower, joins-in, joins-present, top}
use Rattle.closure.specs.LowerSlots.{across-lower, slot-falls}
use Rattle.closure.specs.Ways.{direction, node-place}
use Rattle.flat.specs.Codes.{no_edge}
use Rattle.shows.specs.Shows.{held}
use Rattle.shows.specs.Riding.{opens, Riding, back-opens}
use Rattle.shows.specs.Named.{same_test}
use Rattle.shows.proofs.Read.{own-slot, other-slot}
use Rattle.shows.specs.Grown.{Aloft}

-- THE SHEETS THAT ARE THERE, one sheet lower
more-there : (s n j : ℕ) → j + 1 < s → j < min s (n - s) → j + 1 < min s (n + 1 - s)
more-there s n j a b = omega arith

less-there : (s n j : ℕ) → j + 1 < min s (n + 1 - s) → j < min s (n - s)
less-there s n j a = omega arith

le-lt : {a b c : ℕ} → a ≤ b → b < c → a < c
le-lt a b = omega arith

module _ (T : Table) (S : Suited T) (w : Window) (k : Kept T w) (bytes : List ℕ) where
  abbrev F : Facts T w
  F = facts T w k.formed

  abbrev h : ℕ
  h = w.shape.height

  abbrev d : ℕ
  d = w.shape.distance

  abbrev w' : Window
  w' = rounded T w bytes

  -- the sheets that are there after it
  abbrev k' : ℕ
  k' = min (sheets_of d) (w.next + 1 - sheets_of d)

  -- EDGES, by the node that names them
  module _ (kind : ℕ) (m : kind < T.kinds) where
    abbrev p : ℕ
    p = namer T kind

    abbrev st : Step
    st = step T p

    up : st.sheet.more ≤ st.sheet.less
    up = S.upwards kind m

    -- one that is not new is there exactly if it was
    module _ (a g : ℕ) (e : g ≡ a + sheet w) (l : g < size w) (t : at_top T w g p ≡ false) where
      abbrev q : Place
      q = place w a

      moves : place w g ≡ lower q
      moves = above_place w F.ranged a g e l

      deep : q.depth + 1 < sheets_of d
      deep = above_depth w F.ranged a g e l

      -- it does not lead to the top sheet
      clear : Clear st.sheet q.depth
      unfolding across
      clear =
          let x : (eqb (q.depth + 1) 0 || eqb (goes st.sheet (q.depth + 1)) 0) ≡ false = rw moves at t in
          let y : eqb (goes st.sheet (q.depth + 1)) 0 ≡ false = whether (eqb (goes st.sheet (q.depth + 1)) 0) (λ z. absurd (undone (sym (other (eqb (q.depth + 1) 0) _ z) ∙ x))) (λ z. z) in
          let z = eqb-false _ 0 y in
          far (goes st.sheet (q.depth + 1)) z refl
        where
          far : (v : ℕ) → (v ≡ 0 → ⊥) → v ≡ goes st.sheet (q.depth + 1) → st.sheet.less ≤ q.depth + st.sheet.more
          far v z e = omega arith

      there-lower : (to w' T p g).there ≡ (to w T p a).there
      unfolding rounded across
      there-lower =
          rw moves
          (same_test _ _
          (λ o.
          let j = edge T h d k' p (lower q) o in
          let x = less-there (sheets_of d) w.next q.depth j.from.depth in
          let u = up in
          let y : goes st.sheet q.depth ≤ q.depth = omega (arith, u) in
          edge-there T h d (present w) p q (record {
            from = record { depth = x; row = j.from.row; column = j.from.column };
            to = record { depth = le-lt y x; row = j.to.row; column = j.to.column };
            row = j.row;
            column = j.column;
            sheet = clear;
            moves = j.moves;
            kind = j.kind;
          }))
          (λ o.
          let j = edge T h d (present w) p q o in
          let u = up in
          let x = more-there (sheets_of d) w.next q.depth deep j.from.depth in
          let y : goes st.sheet (q.depth + 1) ≤ q.depth + 1 = omega (arith, u) in
          edge-there T h d k' p (lower q) (joins-in h d (present w + 1) k' (lower q) st (joins-lower h d (present w) q st j) x (le-lt y x))))

      pub held-lower : held T w' kind g ≡ held T w kind a
      unfolding rounded
      held-lower = ap₂ (λ (b : Bool) (v : ℕ). if b v no_edge) there-lower (sunk-slot T w g kind l m {A = ℕ} 0 w.growth a e t)

    -- a new one is there or not, and has not grown
    pub held-top : (g : ℕ) → g < size w → at_top T w g p ≡ true → held T w' kind g ≡ if (to w' T p g).there 0 no_edge
    unfolding rounded
    held-top g l t = ap (λ (v : ℕ). if (to w' T p g).there v no_edge) (top-slot T w g kind l m {A = ℕ} 0 w.growth t)

    -- the top sheet's are new
    pub top-new : (g : ℕ) → g < sheet w → at_top T w g p ≡ true
    top-new g l = either _ _ (eq-eqb _ 0 (top h d g F.ranged.h1 l))

  -- a node is in the top sheet, or below another
  pub by-sheet : {A : Type 0} (g : ℕ) → (g < sheet w → A) → ((a : ℕ) → g ≡ a + sheet w → A) → A
  by-sheet g x y = ⊎_elim x (λ n. y (g - sheet w) (omega arith)) (order g (sheet w))

  pub above : (a g : ℕ) → g < size w → g ≡ a + sheet w → a < size w
  above a g l e = above-lt w F.ranged a g e l

  -- OPEN EDGES: none from the top sheet
  pub top-shut : (g p : ℕ) → g < size w → g < sheet w → opens T w' g p ≡ false
  unfolding rounded
  top-shut g p l x = whether (opens T w' g p) (λ o. absurd (is_open o)) (λ o. o)
    where
      is_open : opens T w' g p ≡ true → ⊥
      is_open o =
          let c = halves (to w' T p g).there _ o in
          let e = c.0 in
          let y : get_or w'.growth (to w' T p g).slot 0 ≡ 2 = eqb-true _ 2 c.1 in
          let i = direction T w' g p e in
          let O = S.proper.opposed p i in
          let kind = (step T p).kind in
          let u = (to w' T p g).node in
          whether (step T p).own
          (λ z.
          let v = top-slot T w g kind l O.kind {A = ℕ} 0 w.growth (top-new kind O.kind g x) in
          let f = own-slot T w' g p e z in
          omega (arith, sym v ∙ ap (λ (j : ℕ). get_or w'.growth j 0) (sym f) ∙ y))
          (λ z.
          let b = (step T p).back in
          let j = edge T h d k' p (place w g) e in
          let q : place w u ≡ across (step T p) (place w g) = node-place T w' g p e in
          let v : across (step T b) (place w u) ≡ place w g = ap (across (step T b)) q ∙ across-back h d k' (step T p) (step T b) O.reversed (place w g) j in
          let n : namer T kind ≡ b = namer-back T S p i z in
          let depth : (across (step T (namer T kind)) (place w u)).depth ≡ 0
          = ap (λ (c : ℕ). (across (step T c) (place w u)).depth) n ∙ ap (λ (c : Place). c.depth) v ∙ top h d g F.ranged.h1 x in
          let t : at_top T w u (namer T kind) ≡ true = other (eqb (place w u).depth 0) _ (eq-eqb _ 0 depth) in
          let s = top-slot T w u kind (node-within T w' F.ranged p g e) O.kind {A = ℕ} 0 w.growth t in
          let f = other-slot T w' g p e z in
          omega (arith, sym s ∙ ap (λ (j : ℕ). get_or w'.growth j 0) (sym f) ∙ y))

  -- node g is below node a
  module _ (a g p : ℕ) (l : g < size w) (e : g ≡ a + sheet w) where
    abbrev place₁ : Place
    place₁ = place w a

    sinks : place w g ≡ lower place₁
    sinks = above_place w F.ranged a g e l

    -- the edge stands in its slot as it stood
    growth-falls : Joins h d (present w) (step T p) place₁ → Joins h d k' (step T p) (lower place₁) → get_or w'.growth (to w' T p g).slot 0 ≡ get_or w.growth (to w T p a).slot 0
    unfolding rounded
    growth-falls i j =
        rw (sinks, edge-slot T h d k' p (lower place₁) j, edge-slot T h d (present w) p place₁ i)
        (slot-falls T w F.ranged {A = ℕ} 0 w.growth S p place₁ (present w) (w.next + 1) i j)

    -- one that is open below was open above
    pub open-lower : opens T w' g p ≡ true → opens T w a p ≡ true
    unfolding rounded across
    open-lower o =
        let c = halves (to w' T p g).there _ o in
        let u = (to w' T p g).node in
        let j : Joins h d k' (step T p) (lower place₁) = subst (λ (q : Place). Joins h d k' (step T p) q) sinks (edge T h d k' p (place w g) c.0) in
        let lu = node-within T w' F.ranged p g c.0 in
        let pu : place w u ≡ across (step T p) (lower place₁) = node-place T w' g p c.0 ∙ ap (across (step T p)) sinks in
        let low : sheet w ≤ u = ⊎_elim (λ x. absurd (undone (sym (back-opens T S w' g p o) ∙ top-shut u (step T p).back lu x))) (λ x. x) (order u (sheet w)) in
        let b : u ≡ u - sheet w + sheet w = omega arith in
        let pb = above_place w F.ranged (u - sheet w) u b lu in
        let deep : (across (step T p) (lower place₁)).depth ≡ (place w (u - sheet w)).depth + 1 = ap (λ (q : Place). q.depth) (sym pu ∙ pb) in
        let i : Joins h d (present w) (step T p) place₁ = raised j (place w (u - sheet w)).depth deep in
        both _ _ (edge-there T h d (present w) p place₁ i) (eq-eqb _ 2 (sym (growth-falls i j) ∙ eqb-true _ 2 c.1))
      where
        raised : Joins h d k' (step T p) (lower place₁) → (v : ℕ) → goes (step T p).sheet (place₁.depth + 1) ≡ v + 1 → Joins h d (present w) (step T p) place₁
        raised j v q =
            let f = j.from.depth in
            let t = j.to.depth in
            let t' : v + 1 < k' = rw q at t in
            record {
              from = record { depth = less-there (sheets_of d) w.next place₁.depth f; row = j.from.row; column = j.from.column };
              to = record { depth = same-lt (omega arith) (less-there (sheets_of d) w.next v t'); row = j.to.row; column = j.to.column };
              row = j.row;
              column = j.column;
              sheet = omega arith;
              moves = j.moves;
              kind = j.kind;
            }
          where
            same-lt : {a b c : ℕ} → a ≡ b → b < c → a < c
            same-lt a b = omega arith

    -- and leads to the node below
    pub node-lower : opens T w' g p ≡ true → (to w' T p g).node ≡ (to w T p a).node + sheet w
    unfolding rounded
    node-lower o =
        let i = edge T h d (present w) p place₁ (halves (to w T p a).there _ (open-lower o)).0 in
        let j = edge T h d k' p (place w g) (halves (to w' T p g).there _ o).0 in
        edge_to T h d k' p (place w g) j
        ∙ ap (λ (q : Place). index_of h d (across (step T p) q)) sinks
        ∙ ap (index_of h d) (across-lower (step T p) place₁ i.sheet)
        ∙ index-lower h d (across (step T p) place₁)
        ∙ ap (λ (v : ℕ). v + sheet w) (sym (edge_to T h d (present w) p place₁ i))

    -- one that was open above is open below, if it does not lead out
    pub open-sinks : opens T w a p ≡ true → (bottom w g && falls T p) ≡ false → opens T w' g p ≡ true
    unfolding rounded
    open-sinks o n =
        let c = halves (to w T p a).there _ o in
        let i = edge T h d (present w) p place₁ c.0 in
        let u = F.next in
        let j : Joins h d k' (step T p) (lower place₁)
        = joins-present T S.proper h d (w.next + 1) (present w + 1) (lower place₁) p (joins-lower h d (present w) place₁ (step T p) i) (omega arith) (above_depth w F.ranged a g e l)
        (subst (λ (q : Place). (eqb (q.depth + 1) (sheets_of d) && falls T p) ≡ false) sinks n) in
        let t : (to w' T p g).there ≡ true = rw sinks (edge-there T h d k' p (lower place₁) j) in
        both _ _ t (eq-eqb _ 2 (growth-falls i j ∙ eqb-true _ 2 c.1))

  -- POINTERS: at rest they ride, and after the round they do but for those that lead out
  pub aloft-round : Riding T w → Aloft T (rounded T w bytes)
  unfolding rounded top_node
  aloft-round R g l n o =
      by-sheet g
      (λ x. absurd (n (ap (λ (y : Node). y.pointer) (top-at T w g l bytes x))))
      (λ a x.
      let e : (at w' g).pointer ≡ (at w a).pointer = ap (λ (y : Node). y.pointer) (sunk-at T w g l bytes a x) in
      rw e (open-sinks a g (at w a).pointer l x (R a (above a g l x) (λ z. n (e ∙ z))) (ap (λ (p : ℕ). bottom w g && falls T p) (sym e) ∙ o)))
