-- ONE SHEET DOWN: places, edges and numbers. Assumes nothing.
use Rattle.std.specs.Prelude.{ℕ, ◌+◌, ◌-◌, ◌*◌, ◌≤◌, ◌<◌, ◌≡◌, false, ◌&&◌, ltb, eqb}
use Rattle.std.proofs.Common.{mul-one, sym, ◌∙◌, ap, ⊎_elim, ltb-true, lt-ltb, eq-eqb}
use native.Mathlib.Omega.{arith}
use Rattle.refusal.specs.Laws.{undone}
use Rattle.shape.specs.Choice.{if, if-true, if-false, tell, order}
use Rattle.shape.specs.Ranges.{Ranged}
use Rattle.shape.proofs.Ranges.{both}
use Rattle.shape.specs.Sizes.{sheets_of, nodes_in}
use Rattle.shape.specs.Nodes.{index_of, place_at}
use Rattle.shape.specs.Counting.{Inside}
use Rattle.shape.proofs.Totals.{total}
use Rattle.shape.proofs.LawsIndex.{index-place, place-index, index-inside}
use Rattle.steps.specs.Steps.{Table, step, across, falls}
use Rattle.steps.specs.Joins.{Joins}
use Rattle.steps.specs.Proper.{Proper, points}
use Rattle.shape.specs.declared.Place.{Place}
use Rattle.steps.specs.declared.Step.{Step}
use Rattle.window.specs.Window.{size, sheet, supplied, place}
use Rattle.window.specs.Round.{lowered_number}
use Rattle.window.specs.declared.Window.{Window}
use Rattle.closure.specs.Facts.{inside-at}

-- PLACES

abbrev pub lower : Place → Place
lower q = record { depth = q.depth + 1; row = q.row; column = q.column }

module _ (h d : ℕ) where
  pub index-lower : (q : Place) → index_of h d (lower q) ≡ index_of h d q + h * (d + 1)
  unfolding index_of
  index-lower q = omega arith

  place-lower : (k a g : ℕ) → g ≡ a + h * (d + 1) → Inside h d k (place_at h d a) → place_at h d g ≡ lower (place_at h d a)
  place-lower k a g e i =
      let q = place_at h d a in
      let x : g ≡ index_of h d (lower q) = omega (arith, index-lower q, index-place h d a) in
      ap (λ (n : ℕ). place_at h d n) x ∙ place-index h d (k + 1) (lower q) (record { depth = omega (arith, i.depth); row = i.row; column = i.column })

  -- the nodes of the top sheet come first
  pub top : (g : ℕ) → 1 ≤ h → g < h * (d + 1) → (place_at h d g).depth ≡ 0
  top g h1 l = omega (arith, (index-inside h d 1 g h1 (rw mul-one l)).depth)

-- node g of a window is one sheet below node a
module _ (w : Window) (r : Ranged w.shape.height w.shape.distance) (a g : ℕ) (e : g ≡ a + sheet w) (l : g < size w) where
  pub above-lt : a < size w
  above-lt = omega arith

  pub above_place : place w g ≡ lower (place w a)
  above_place = place-lower w.shape.height w.shape.distance (sheets_of w.shape.distance) a g e (inside-at w.shape.height w.shape.distance r a above-lt)

  pub above_depth : (place w a).depth + 1 < sheets_of w.shape.distance
  above_depth = let i = (inside-at w.shape.height w.shape.distance r g l).depth in rw above_place at i

-- EDGES

-- an edge of k sheets is one of k + 1, one sheet lower
pub joins-lower : (h d k : ℕ) (q : Place) (st : Step) → Joins h d k st q → Joins h d (k + 1) st (lower q)
unfolding across
joins-lower h d k q st j =
    let a = j.from.depth in
    let b = j.to.depth in
    let c = j.sheet in
    record {
      from = record { depth = omega arith; row = j.from.row; column = j.from.column };
      to = record { depth = omega arith; row = j.to.row; column = j.to.column };
      row = j.row;
      column = j.column;
      sheet = omega arith;
      moves = j.moves;
      kind = j.kind;
    }

-- and of any number of sheets that has both its ends
pub joins-in : (h d k k' : ℕ) (q : Place) (st : Step) → Joins h d k st q → q.depth < k' → (across st q).depth < k' → Joins h d k' st q
joins-in h d k k' q st j a b =
    record {
      from = record { depth = a; row = j.from.row; column = j.from.column };
      to = record { depth = b; row = j.to.row; column = j.to.column };
      row = j.row;
      column = j.column;
      sheet = j.sheet;
      moves = j.moves;
      kind = j.kind;
    }

-- an edge between supplied sheets that does not lead down from the bottom is one of the window
pub joins-present : (T : Table) → Proper T → (h d next k : ℕ) (q : Place) (p : ℕ) → Joins h d k (step T p) q → k ≤ next - sheets_of d → q.depth < sheets_of d
    → (eqb (q.depth + 1) (sheets_of d) && falls T p) ≡ false → Joins h d (supplied d next (sheets_of d)) (step T p) q
unfolding across
joins-present T P h d next k q p j u l e =
    let a = j.from.depth in
    let b = j.to.depth in
    let c = j.sheet in
    let o = (P.opposed p (points T p j.moves)).fall in
    ⊎_elim (λ m. joins-in h d k (supplied d next (sheets_of d)) q (step T p) j (omega arith) (omega arith))
    (λ m. absurd (undone (sym (both _ _ (eq-eqb (q.depth + 1) (sheets_of d) (omega arith)) (lt-ltb (step T p).sheet.less (step T p).sheet.more (omega arith))) ∙ e)))
    (order (across (step T p) q).depth (sheets_of d))

-- NUMBERS

module _ (h e s m N : ℕ) (t : N ≡ 2 * h * (s + 1) + (s + 1) * h * e) (l : m < N) where
  -- with e detectors to a row
  number_lt : if (ltb m (2 * h * s)) (m + 2 * h) (if (ltb m (2 * h * (s + 1))) m (if (ltb m (2 * h * (s + 1) + h * e * s)) (m + h * e) m)) < N
  number_lt =
      ⊎_elim (λ a. rw (if-true (ltb m (2 * h * s)) _ _ a) (omega (arith, ltb-true m (2 * h * s) a)))
      (λ a. rw (if-false (ltb m (2 * h * s)) _ _ a)
      (⊎_elim (λ b. rw (if-true (ltb m (2 * h * (s + 1))) _ _ b) l)
      (λ b. rw (if-false (ltb m (2 * h * (s + 1))) _ _ b)
      (⊎_elim (λ c. rw (if-true (ltb m (2 * h * (s + 1) + h * e * s)) _ _ c) (omega (arith, ltb-true m (2 * h * (s + 1) + h * e * s) c)))
      (λ c. rw (if-false (ltb m (2 * h * (s + 1) + h * e * s)) _ _ c) l)
      (tell (ltb m (2 * h * (s + 1) + h * e * s)))))
      (tell (ltb m (2 * h * (s + 1))))))
      (tell (ltb m (2 * h * s)))

-- the number of the node below is one
pub lowered-lt : (h d m : ℕ) → 1 ≤ d → m < nodes_in h d (sheets_of d + 1) → lowered_number h d m < nodes_in h d (sheets_of d + 1)
unfolding lowered_number
lowered-lt h d m d1 l = number_lt h (d - 1) (sheets_of d) m (nodes_in h d (sheets_of d + 1)) (total h d (sheets_of d + 1) d1) l
