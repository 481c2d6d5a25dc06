-- SHEETS BY INDEX, for loops: which nodes are at the bottom, which edges are new after a round and which of those are there. Assumes nothing.
use Rattle.std.specs.Prelude.{ℕ, ◌+◌, ◌-◌, ◌*◌, ◌≤◌, ◌<◌, min, ◌≡◌, refl, false, ◌&&◌, List, ltb, leb, eqb}
use Rattle.std.proofs.Common.{mul-one, mul-add, ◌∙◌, ap, ⊎_elim}
use native.Mathlib.Omega.{arith}
use Rattle.std.proofs.Math.Path.{sym}
use borrow.Author.Tests.{eqb-true, eq-eqb, ltb-true, lt-ltb, leb-true, le-leb}
use Rattle.shape.specs.Choice.{whether, order}
use Rattle.shape.proofs.LawsIndex.{index-place, index-lt, index-inside}
use Rattle.shape.specs.Ranges.{Ranged}
use Rattle.shape.proofs.Ranges.{halves, both, nodes-of}
use Rattle.shape.specs.Sizes.{sheets_of}
use Rattle.steps.specs.Steps.{Table, step, goes, across, namer}
use Rattle.steps.specs.declared.Step.{Step}
use Rattle.window.specs.Round.{at_top, rounded}
use Rattle.window.specs.Window.{size, sheet, place, bottom, to}
use Rattle.window.specs.declared.Window.{Window}
use Rattle.layers.specs.Layers.{spans}
use Rattle.layers.proofs.Layers.{joins-spans, spans-joins}
use Rattle.closure.specs.Closure.{Kept}
use Rattle.closure.specs.Edges.{edge, edge-there}
use Rattle.closure.specs.Facts.{Facts, facts, inside-at}
use Rattle.closure.specs.Lists.{either, other, choice}
use Rattle.closure.specs.Lower.{lower, above_place, top}
use Rattle.flat.specs.Entries.{margin, entry}
use Rattle.shows.specs.Named.{same_test}

module _ (w : Window) (r : Ranged w.shape.height w.shape.distance) (g : ℕ) where
  depth-lt : (k : ℕ) → g < sheet w * k → (place w g).depth < k
  depth-lt k l = (index-inside w.shape.height w.shape.distance k g r.h1 l).depth

  lt-depth : (k : ℕ) → g < size w → (place w g).depth < k → g < sheet w * k
  lt-depth k l m =
      let i = inside-at w.shape.height w.shape.distance r g l in
      let x = index-lt w.shape.height w.shape.distance k (place w g) (record { depth = m; row = i.row; column = i.column }) in
      rw (index-place w.shape.height w.shape.distance g) at x

-- THE BOTTOM SHEET is the last one
module _ (w : Window) (r : Ranged w.shape.height w.shape.distance) (g : ℕ) (l : g < size w) where
  abbrev s : ℕ
  s = sheets_of w.shape.distance

  sheets : size w ≡ sheet w * (s - 1) + sheet w
  sheets =
      let a = nodes-of w.shape.height w.shape.distance r in
      let b : s - 1 + 1 ≡ s = omega arith in
      let c = mul-add (sheet w) (s - 1) 1 in
      a ∙ ap (λ (x : ℕ). sheet w * x) (sym b) ∙ c ∙ rw (mul-one (sheet w)) refl

  pub bottom-is : bottom w g ≡ leb (margin + size w - sheet w) (entry g)
  bottom-is =
      same_test _ _
      (λ e.
      let x = eqb-true ((place w g).depth + 1) s e in
      ⊎_elim (λ z. let y = depth-lt w r g (s - 1) z in absurd (omega arith)) (λ z. le-leb (margin + size w - sheet w) (entry g) (omega (arith, sheets))) (order g (sheet w * (s - 1))))
      (λ e.
      let x = leb-true (margin + size w - sheet w) (entry g) e in
      let i = (inside-at w.shape.height w.shape.distance r g l).depth in
      ⊎_elim (λ z. let y = lt-depth w r g (s - 1) l z in absurd (omega (arith, sheets))) (λ (z : s - 1 ≤ (place w g).depth). eq-eqb ((place w g).depth + 1) s (omega arith)) (order (place w g).depth (s - 1)))

module _ (T : Table) (w : Window) (k : Kept T w) (bytes : List ℕ) (kind : ℕ) where
  abbrev F : Facts T w
  F = facts T w k.formed

  abbrev h : ℕ
  h = w.shape.height

  abbrev d : ℕ
  d = w.shape.distance

  abbrev p : ℕ
  p = namer T kind

  abbrev st : Step
  st = step T p

  abbrev w' : Window
  w' = rounded T w bytes

  abbrev k' : ℕ
  k' = min (sheets_of d) (w.next + 1 - sheets_of d)

  one-there : 0 < k'
  one-there = omega (arith, F.next)

  -- an edge that stays in its sheet
  module _ (e : st.sheet.less ≡ st.sheet.more) (g : ℕ) where
    pub top-still : g < size w → at_top T w g p ≡ ltb g (sheet w)
    unfolding across
    top-still l =
        let q = place w g in
        let z : goes st.sheet q.depth ≡ q.depth = omega arith in
        same_test _ _
        (λ t.
        let y : q.depth ≡ 0 = choice (eqb q.depth 0) (eqb (goes st.sheet q.depth) 0) t (eqb-true _ 0) (λ x. sym z ∙ eqb-true _ 0 x) in
        let a = lt-depth w F.ranged g 1 l (omega arith) in
        lt-ltb g (sheet w) (rw (mul-one (sheet w)) at a))
        (λ t. either _ _ (eq-eqb _ 0 (top h d g F.ranged.h1 (ltb-true g (sheet w) t))))

    pub new-still : g < sheet w → (to w' T p g).there ≡ spans h d st (place w g).row (place w g).column
    unfolding rounded
    new-still l =
        let q = place w g in
        let z : q.depth ≡ 0 = top h d g F.ranged.h1 l in
        let o = one-there in
        same_test _ _
        (λ t. joins-spans h d st k' q (edge T h d k' p q t))
        (λ t. edge-there T h d k' p q (spans-joins h d st k' q t (rw z o) (omega arith) (lower-lt (goes st.sheet q.depth) k' (omega arith) o)))
      where
        lower-lt : (a b : ℕ) → a ≡ 0 → 0 < b → a < b
        lower-lt a b x y = omega arith

  -- an edge up
  module _ (e : st.sheet.less ≡ st.sheet.more + 1) (g : ℕ) where
    pub top_up : g < size w → at_top T w g p ≡ ltb g (sheet w * 2)
    unfolding across
    top_up l =
        let q = place w g in
        same_test _ _
        (λ t.
        let y : q.depth < 2 = choice (eqb q.depth 0) (eqb (goes st.sheet q.depth) 0) t
        (λ x. let a : q.depth ≡ 0 = eqb-true _ 0 x in omega arith) (λ x. let a : goes st.sheet q.depth ≡ 0 = eqb-true _ 0 x in omega arith) in
        lt-ltb g (sheet w * 2) (lt-depth w F.ranged g 2 l y))
        (λ t. let a = depth-lt w F.ranged g 2 (ltb-true g (sheet w * 2) t) in other (eqb q.depth 0) _ (eq-eqb (goes st.sheet q.depth) 0 (omega arith)))

    -- from the top sheet there is none
    pub none-up : g < sheet w → (to w' T p g).there ≡ false
    unfolding rounded
    none-up l =
        let q = place w g in
        let z : q.depth ≡ 0 = top h d g F.ranged.h1 l in
        whether (to w' T p g).there (λ t. let c = (edge T h d k' p q t).sheet in absurd (omega arith)) (λ t. t)

    -- from the sheet below it there is if that sheet is there
    pub new-up : (a : ℕ) → a < sheet w → g ≡ a + sheet w → g < size w → (to w' T p g).there ≡ (spans h d st (place w a).row (place w a).column && ltb 1 k')
    unfolding rounded
    new-up a la x l =
        let q = place w a in
        let z : q.depth ≡ 0 = top h d a F.ranged.h1 la in
        let y : place w g ≡ lower q = above_place w F.ranged a g x l in
        rw y
        (same_test _ _
        (λ t.
        let j = edge T h d k' p (lower q) t in
        let i = j.from.depth in
        both _ _ (joins-spans h d st k' (lower q) j) (lt-ltb 1 k' (one i z)))
        (λ t.
        let c = halves (spans h d st q.row q.column) (ltb 1 k') t in
        let o = ltb-true 1 k' c.1 in
        edge-there T h d k' p (lower q) (spans-joins h d st k' (lower q) c.0 (deep o z) (omega arith) (below (goes st.sheet (q.depth + 1)) k' (omega arith) o))))
      where
        one : {j n : ℕ} → j + 1 < n → j ≡ 0 → 1 < n
        one i z = omega arith

        deep : {j n : ℕ} → 1 < n → j ≡ 0 → j + 1 < n
        deep o z = omega arith

        below : (j n : ℕ) → j ≡ 0 → 1 < n → j < n
        below j n x y = omega arith
