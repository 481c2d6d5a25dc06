-- Laws of the walk through a window. Assumes nothing.
use Rattle.std.specs.Prelude.{ℕ, ◌+◌, ◌*◌, ◌/◌, ◌≤◌, ◌<◌, ◌≡◌, refl, Bool, true, false}
use Rattle.std.proofs.Common.{add-mul, one-mul, mod-eq_of_lt, not-suc-le-zero, sym, ◌∙◌, ap, subst}
use Rattle.std.proofs.Math.Nat.{mod-lt, div-eq_of_lt}
use native.Mathlib.Omega.{arith}
use Rattle.std.proofs.Math.Logic.{⊎_elim}
use borrow.Author.Tests.{lt-ltb, le-ltb}
use Rattle.shape.specs.Choice.{order, if-false}
use Rattle.shape.specs.Sizes.{sheets_of, in_range, nodes_in, nodes_of, max_sheets, max_nodes, max_numbers}
use Rattle.shape.specs.Ranges.{Ranged}
use Rattle.shape.proofs.Ranges.{ranged, nodes-of, sheets-le}
use Rattle.shape.specs.Counting.{Inside}
use Rattle.shape.specs.Nodes.{index_of, place_at, number_of}
use Rattle.shape.proofs.LawsIndex.{index-place, place-index, index-inside, index-lt, window-le, numbers-le}
use Rattle.shape.proofs.LawsNumber.{number_lt}
use Rattle.shape.specs.declared.Place.{Place}
use Rattle.walk.specs.Walk.{place_after, Stands}

-- THE PLACE AFTER, by where a place stands

module _ (h d : ℕ) (q : Place) where
  pub after-column : q.column < d → ◌≡◌ {A = Place} (record { depth = q.depth; row = q.row; column = q.column + 1 }) (place_after h d q)
  unfolding place_after
  after-column l = rw (lt-ltb q.column d l)

  pub after-row : d ≤ q.column → q.row + 1 < h → ◌≡◌ {A = Place} (record { depth = q.depth; row = q.row + 1; column = 0 }) (place_after h d q)
  unfolding place_after
  after-row l m = rw (le-ltb q.column d l, lt-ltb (q.row + 1) h m)

  pub after-sheet : d ≤ q.column → h ≤ q.row + 1 → ◌≡◌ {A = Place} (record { depth = q.depth + 1; row = 0; column = 0 }) (place_after h d q)
  unfolding place_after
  after-sheet l m = rw (le-ltb q.column d l, le-ltb (q.row + 1) h m)

-- its index is one more

full-row : (d a c : ℕ) → c ≡ d → (a + 1) * (d + 1) ≡ a * (d + 1) + c + 1
full-row d a c e = rw (add-mul, one-mul, e) (omega arith)

full-sheet : (h k r : ℕ) → r + 1 ≡ h → (k + 1) * h + 0 ≡ k * h + r + 1
full-sheet h k r e = rw (add-mul, one-mul) (omega arith)

module _ (h d : ℕ) (q : Place) where
  index-column : index_of h d (record { depth = q.depth; row = q.row; column = q.column + 1 }) ≡ index_of h d q + 1
  unfolding index_of
  index-column = omega arith

  index-row : q.column ≡ d → index_of h d (record { depth = q.depth; row = q.row + 1; column = 0 }) ≡ index_of h d q + 1
  unfolding index_of
  index-row e =
      let a : q.depth * h + (q.row + 1) ≡ q.depth * h + q.row + 1 = omega arith in
      rw a (omega (arith, full-row d (q.depth * h + q.row) q.column e))

  index-sheet : q.column ≡ d → q.row + 1 ≡ h → index_of h d (record { depth = q.depth + 1; row = 0; column = 0 }) ≡ index_of h d q + 1
  unfolding index_of
  index-sheet e f = rw (full-sheet h q.depth q.row f) (omega (arith, full-row d (q.depth * h + q.row) q.column e))

-- THE WALK from place to place

module _ (h d : ℕ) (h1 : 1 ≤ h) (g : ℕ) where
  here : Place
  here = place_at h d g

  row_fits : here.row < h
  unfolding place_at here
  row_fits = mod-lt (g / (d + 1)) h1

  column_fits : here.column < d + 1
  unfolding place_at here
  column_fits = let p : 0 < d + 1 = omega arith in mod-lt g p

  counts : index_of h d here ≡ g
  unfolding here
  counts = index-place h d g

  next-is : (t : Place) → t.row < h → t.column ≤ d → index_of h d t ≡ index_of h d here + 1 → t ≡ place_at h d (g + 1)
  next-is t a b e =
      let i : Inside h d (t.depth + 1) t = record { depth = omega arith; row = a; column = b } in
      sym (place-index h d (t.depth + 1) t i) ∙ ap (λ (n : ℕ). place_at h d n) (e ∙ ap (λ (n : ℕ). n + 1) counts)

  along : here.column < d → place_after h d here ≡ place_at h d (g + 1)
  along l =
      sym (after-column h d here l)
      ∙ next-is (record { depth = here.depth; row = here.row; column = here.column + 1 }) row_fits (omega arith) (index-column h d here)

  below : d ≤ here.column → here.row + 1 < h → place_after h d here ≡ place_at h d (g + 1)
  below l m =
      let e : here.column ≡ d = omega (arith, column_fits) in
      sym (after-row h d here l m) ∙ next-is (record { depth = here.depth; row = here.row + 1; column = 0 }) m (omega arith) (index-row h d here e)

  under : d ≤ here.column → h ≤ here.row + 1 → place_after h d here ≡ place_at h d (g + 1)
  under l m =
      let e : here.column ≡ d = omega (arith, column_fits) in
      let f : here.row + 1 ≡ h = omega (arith, row_fits) in
      sym (after-sheet h d here l m) ∙ next-is (record { depth = here.depth + 1; row = 0; column = 0 }) h1 (omega arith) (index-sheet h d here e f)

  pub after-place : place_after h d (place_at h d g) ≡ place_at h d (g + 1)
  unfolding here
  after-place = ⊎_elim along (λ l. ⊎_elim (below l) (under l) (order (here.row + 1) h)) (order here.column d)

pub first-place : (h d : ℕ) → 1 ≤ h → ◌≡◌ {A = Place} (record { depth = 0; row = 0; column = 0 }) (place_at h d 0)
unfolding place_at
first-place h d h1 = let p : 0 < d + 1 = omega arith in rw (div-eq_of_lt p, mod-eq_of_lt p, div-eq_of_lt h1, mod-eq_of_lt h1)

-- A NODE OF THE WINDOW

module _ (h d : ℕ) (r : Ranged h d) (g : ℕ) (l : g < nodes_of h d) where
  in_window_lem : g < nodes_in h d (sheets_of d)
  in_window_lem = subst (λ (n : ℕ). g < n) (nodes-of h d r) l

  pub stands : Stands h d (place_at h d g) g
  stands = record { ranged = r; inside = index-inside h d (sheets_of d) g r.h1 in_window_lem; index = sym (index-place h d g) }

-- a loop's turn goes on to the next place
pub walks : (h d : ℕ) (q t : Place) (g : ℕ) → 1 ≤ h → q ≡ place_at h d g → t ≡ place_after h d q → t ≡ place_at h d (g + 1)
walks h d q t g h1 e f = f ∙ ap (λ (x : Place). place_after h d x) e ∙ after-place h d h1 g

-- where there are nodes the shape is in range
pub peopled : (h d g : ℕ) → g < nodes_of h d → Ranged h d
peopled h d g l = go (in_range h d) refl
  where
    go : (b : Bool) → in_range h d ≡ b → Ranged h d
    go true e = ranged h d e
    go false e = absurd (not-suc-le-zero (subst (λ (n : ℕ). g < n) (if-false (in_range h d) (nodes_in h d (sheets_of d)) 0 e) l))

module _ (h d : ℕ) (q : Place) (g : ℕ) (s : Stands h d q g) where
  pub stands-low : g < max_nodes
  stands-low = omega (arith, s.index, index-lt h d (sheets_of d) q s.inside, window-le h d s.ranged)

  pub depth_low : q.depth < max_sheets
  depth_low = omega (arith, s.inside.depth, sheets-le d s.ranged.d-max)

  pub number-low : number_of h d q < max_numbers
  number-low =
      let i : Inside h d (sheets_of d + 1) q = record { depth = omega (arith, s.inside.depth); row = s.inside.row; column = s.inside.column } in
      omega (arith, number_lt h d s.ranged.d2 q i, numbers-le h d s.ranged)

-- IN A LOOP over the nodes, whose place is known where there are rows

pub stands_at : (h d : ℕ) (q : Place) (n g : ℕ) → n ≡ nodes_of h d → g < n → (1 ≤ h → q ≡ place_at h d g) → Stands h d q g
stands_at h d q n g e l f =
    let m : g < nodes_of h d = subst (λ (x : ℕ). g < x) e l in
    let r = peopled h d g m in
    subst (λ (x : Place). Stands h d x g) (sym (f r.h1)) (stands h d r g m)

pub walks-on : (h d : ℕ) (q t : Place) (g : ℕ) → (1 ≤ h → q ≡ place_at h d g) → t ≡ place_after h d q → 1 ≤ h → t ≡ place_at h d (g + 1)
walks-on h d q t g f e h1 = walks h d q t g h1 (f h1) e
