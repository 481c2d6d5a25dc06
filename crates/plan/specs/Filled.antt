-- THE TABLE IS WHAT THE MACHINE NEEDS. Assumes nothing.
use Rattle.std.specs.Prelude.{ℕ, ◌+◌, ◌-◌, ◌*◌, ◌/◌, ◌%◌, ◌≤◌, ◌<◌, refl, Bool, not, List, leb, length, replicate}
use Rattle.std.proofs.Common.{mul-le-mul, add-mul, mul-add, mul_assoc, mul_comm, mul-one, zero-add, mod-lt, div-lt_iff_lt-mul, div-add-mod', ◌∙◌, subst}
use native.Mathlib.Omega.{arith}
use Rattle.std.proofs.Math.Path.{◌≡◌, sym, ap}
use Rattle.std.proofs.Math.Bool.{true, false}
use borrow.Author.Tests.{leb-true, ltb-true, le-leb, lt-leb, ne_eqb}
use Rattle.std.proofs.Math.Dec.{eqb}
use Rattle.std.proofs.Math.ListN.{get_or}
use Rattle.std.proofs.lemmas.List.{length-replicate}
use Rattle.shape.specs.Boundaries.{between, side-lt}
use Rattle.shape.specs.Choice.{if, whether}
use Rattle.shape.specs.Counting.{before}
use Rattle.shape.proofs.LawsIndex.{window-le}
use Rattle.shape.proofs.LawsNumber.{number-boundary, number-detector}
use Rattle.shape.specs.Nodes.{number_of, place_at, index_of, boundary_nodes, side}
use Rattle.shape.specs.Ranges.{Ranged}
use Rattle.shape.proofs.Ranges.{ranged, halves, nodes-of, sheets-le}
use Rattle.shape.specs.Sizes.{in_range, sheets_of, boundary, nodes_of, nodes_in}
use Rattle.shape.proofs.Totals.{by-sheets}
use Rattle.steps.specs.Steps.{Table, step, falls, namer}
use Rattle.steps.specs.Ranks.{bit}
use Rattle.steps.specs.Suited.{Suited, namer-moves}
use Rattle.steps.specs.declared.Step.{Step}
use Rattle.layers.specs.Boxes.{row_first, column_first, row_end, column_end, rows, columns, within, named, areas}
use Rattle.layers.proofs.Boxes.{spans-box, number-closed}
use Rattle.layers.specs.Layers.{spans, edge_of, layer_edges, node_of}
use Rattle.layers.proofs.Layers.{Has, number-has, number-edge}
use Rattle.layers.specs.declared.Edge.{Edge}
use Rattle.flat.specs.Entries.{plane, entry, cell}
use Rattle.flat.specs.Plan.{plan_of, place_in, Safe}
use Rattle.flat.specs.declared.Sizes.{Sizes}
use Rattle.flat.specs.Stored.{stored, length-stored, stored_at}
use Rattle.shows.specs.Planned.{Planned}
use Rattle.plan.specs.Passes.{passes, blocks, length-passes, length-blocks, passes_at, passes-other, blocks_at, blocks-before}
use Rattle.plan.specs.Table.{sizes_of, off_by, slot_by, rises_by, head_at, head_of, row_of, fresh_by, fresh_in, area_of, fresh_on, place_row, places_on}
use Rattle.plan.specs.Limits.{near, off-low, slot-low, Roomy, namer-low, areas-le, areas-next, areas-mono}

pub record Filled (T : Table) (h d : ℕ) (table : List ℕ) : Type 0 where
  pub long : length table ≡ 7680
  pub safe : Safe (sizes_of T h d) table
  pub planned : Planned T h d (plan_of (sizes_of T h d) table)
  -- a kind's edges go up
  pub rises : (kind : ℕ) → kind < T.kinds → get_or table (160 + kind) 0 ≡ bit (rises_by (named T kind))
  -- a fresh sheet's edges, in a stack of sheets without top or bottom
  pub fresh : (kind r c : ℕ) → kind < T.kinds → r < h → c ≤ d → get_or table (plane + 240 * kind + (r * (d + 1) + c)) 0 ≡ fresh_by (spans h d (named T kind) r c)
  -- the cells of the bottom layer's edges
  pub places : (i : ℕ) → i < layer_edges T h d → place_in table i ≡ cell (edge_of T h d i).kind (entry (index_of h d (node_of (sheets_of d - 1) (edge_of T h d i))))

-- ROWS OF NUMBERS

-- a node's number by its row, counted through all sheets, and its column
module _ (h d : ℕ) (r : Ranged h d) (g : ℕ) where
  abbrev row : ℕ
  row = g / (d + 1)

  abbrev column : ℕ
  column = g % (d + 1)

  column-lt : column < d + 1
  column-lt = let w : 0 < d + 1 = omega arith in mod-lt g w

  row_is : row / h * h + row % h ≡ row
  row_is = div-add-mod' row h

  side-number : boundary d column ≡ true → row_of h d row column ≡ number_of h d (place_at h d g)
  unfolding place_at
  side-number t =
      let z = r.d2 in
      number-side t ∙ sym (number-boundary h d (place_at h d g) t ∙ ap (λ (x : ℕ). x * 2 + side column) row_is)
    where
      number-side : boundary d column ≡ true → row_of h d row column ≡ row * 2 + side column
      number-side t =
          whether (eqb column 0)
          (λ e. rw e (omega arith))
          (λ e. whether (eqb column d) (λ f. rw (e, f)) (λ f. absurd (nowhere e f t)))
        where
          nowhere : eqb column 0 ≡ false → eqb column d ≡ false → boundary d column ≡ true → ⊥
          nowhere e f t = let u : boundary d column ≡ false = rw (e, f) in let v : ◌≡◌ {A = ℕ} 0 1 = cc in omega arith

  -- by its row and side
  pub by_side : boundary d (place_at h d g).column ≡ true → number_of h d (place_at h d g) ≡ row * 2 + side (place_at h d g).column
  unfolding place_at
  by_side t = number-boundary h d (place_at h d g) t ∙ ap (λ (x : ℕ). x * 2 + side column) row_is

  inner-number : boundary d column ≡ false → row_of h d row column ≡ number_of h d (place_at h d g)
  unfolding place_at
  inner-number t =
      let b = between d column t (omega (arith, column-lt)) in
      let lo = b.0 in
      let hi = b.1 in
      let e : eqb column 0 ≡ false = ne_eqb column 0 (λ x. omega arith) in
      let f : eqb column d ≡ false = ne_eqb column d (λ x. omega arith) in
      let one = some-bound in
      rw (e, f)
      (plus (boundary_nodes h d) (row * (d - 1)) column one lo
      ∙ sym (number-detector h d (place_at h d g) t ∙ ap (λ (x : ℕ). boundary_nodes h d + (x * (d - 1) + (column - 1))) row_is))
    where
      plus : (b m c : ℕ) → 1 ≤ b → 1 ≤ c → b - 1 + m + c ≡ b + (m + (c - 1))
      plus b m c x y = omega arith

      some-bound : 1 ≤ boundary_nodes h d
      some-bound = more h (sheets_of d) r.h1
        where
          more : (h s : ℕ) → 1 ≤ h → 1 ≤ 2 * h * (s + 1)
          more h s l = let e = mul-add (2 * h) s 1 in let f = mul-one (2 * h) in omega arith

  pub row_number_lem : row_of h d row column ≡ number_of h d (place_at h d g)
  row_number_lem = whether (boundary d column) side-number inner-number

-- THE LAST SHEET

module _ (h d : ℕ) (ok : in_range h d ≡ true) where
  abbrev above : ℕ
  above = sheets_of d - 1

  pub sheets-are : nodes_of h d ≡ h * (d + 1) * above + h * (d + 1)
  sheets-are =
      let e : above + 1 ≡ sheets_of d = omega arith in
      nodes-of h d (ranged h d ok) ∙ ap (λ (x : ℕ). h * (d + 1) * x) (sym e) ∙ mul-add (h * (d + 1)) above 1 ∙ rw (mul-one (h * (d + 1))) refl

  pub sheet-most : h * (d + 1) ≤ 240
  sheet-most = let R = ranged h d ok in let x = R.h-max in let y = R.d-max in let b : d + 1 ≤ 16 = omega arith in mul-le-mul {n₂ = 15} {m₂ = 16} x b

  pub bottom-low : 512 + nodes_of h d - h * (d + 1) ≤ 3872
  bottom-low =
      let R = ranged h d ok in
      let y = R.d-max in
      let s : above ≤ 14 = omega (arith, sheets-le d y) in
      let p : h * (d + 1) * above ≤ 3360 = mul-le-mul {n₂ = 240} {m₂ = 14} sheet-most s in
      let e = sheets-are in
      omega arith

-- an entry of it, by a rectangle's first row and column
place-sum : (h w s n kind top left row column : ℕ) → n ≡ h * w * (s - 1) + h * w → top ≤ row → left ≤ column
    → plane * kind + (512 + n - h * w) + top * w + left + (row - top) * w + (column - left) ≡ cell kind (entry (((s - 1) * h + row) * w + column))
place-sum h w s n kind top left row column e a b =
    let x : top + (row - top) ≡ row = omega arith in
    let y = sym (add-mul top (row - top) w) ∙ ap (λ (z : ℕ). z * w) x in
    let u = add-mul ((s - 1) * h) row w in
    let v = by-sheets h w (s - 1) in
    omega arith

-- ALL OF IT

module _ (T : Table) (S : Suited T) (room : Roomy T) (h d : ℕ) (ok : in_range h d ≡ true) where
  abbrev r : Ranged h d
  r = ranged h d ok

  abbrev bottom : ℕ
  bottom = 512 + nodes_of h d - h * (d + 1)

  abbrev zeros : List ℕ
  zeros = replicate 7680 0

  abbrev heads : List ℕ
  heads = stored 0 (head_of T h d) 192 zeros

  abbrev numbers : List ℕ
  numbers = blocks 512 (d + 1) (row_of h d) (d + 1) (h * sheets_of d) heads

  abbrev freshes : List ℕ
  freshes = passes (fresh_on T h d) T.kinds numbers

  abbrev whole : List ℕ
  whole = passes (places_on T h d bottom) T.kinds freshes

  heads-long : length heads ≡ 7680
  heads-long = length-stored 0 (head_of T h d) 192 zeros ∙ length-replicate {A = ℕ} 7680 0

  numbers-long : length numbers ≡ 7680
  numbers-long = length-blocks {A = ℕ} 512 (d + 1) (row_of h d) (d + 1) 0 (h * sheets_of d) heads ∙ heads-long

  long-fresh : (n : ℕ) → length (passes (fresh_on T h d) n numbers) ≡ 7680
  long-fresh n = length-passes (fresh_on T h d) (λ kind l. length-blocks {A = ℕ} (plane + 240 * kind) (d + 1) (fresh_in (area_of h d (named T kind))) (d + 1) 0 h l) n numbers ∙ numbers-long

  long-places : (n : ℕ) → length (passes (places_on T h d bottom) n freshes) ≡ 7680
  long-places n =
      length-passes (places_on T h d bottom)
      (λ kind l. length-blocks {A = ℕ} (6144 + areas T h d kind) (columns d (named T kind)) (place_row d bottom (named T kind) kind) (columns d (named T kind)) 0 (rows h (named T kind)) l) n freshes
      ∙ long-fresh T.kinds

  -- what the last two leave as it was
  before-places : (x : ℕ) → x < 6144 → get_or whole x 0 ≡ get_or freshes x 0
  before-places x l =
      passes-other (places_on T h d bottom) 0 x T.kinds
      (λ kind k l'. blocks-before {A = ℕ} (6144 + areas T h d kind) (columns d (named T kind)) (place_row d bottom (named T kind) kind) (columns d (named T kind)) 0 (rows h (named T kind)) l' x (omega arith)) freshes

  before-fresh : (x : ℕ) → x < 4608 → get_or whole x 0 ≡ get_or numbers x 0
  before-fresh x l =
      before-places x (omega arith)
      ∙ passes-other (fresh_on T h d) 0 x T.kinds
      (λ kind k l'. blocks-before {A = ℕ} (plane + 240 * kind) (d + 1) (fresh_in (area_of h d (named T kind))) (d + 1) 0 h l' x (omega arith)) numbers

  -- THE HEAD
  head_at_lem : (i : ℕ) → i < 192 → get_or whole i 0 ≡ head_of T h d i
  head_at_lem i l =
      before-fresh i (omega arith)
      ∙ blocks-before {A = ℕ} 512 (d + 1) (row_of h d) (d + 1) 0 (h * sheets_of d) heads i (omega arith)
      ∙ ap (λ (x : ℕ). get_or heads x 0) (sym (zero-add i))
      ∙ stored_at 0 (head_of T h d) 192 zeros 0 i l (omega (arith, length-replicate {A = ℕ} 7680 0))

  part_at : (part k x : ℕ) → k < 32 → x < 192 → x ≡ 32 * part + k → get_or whole x 0 ≡ head_at T h d part k
  part_at part k x l m e =
      let q : x / 32 ≡ part = omega arith in
      let t : x % 32 ≡ k = omega arith in
      head_at_lem x m ∙ rw (q, t)

  off_at : (k : ℕ) → k < 32 → get_or whole k 0 ≡ off_by h d (step T (k + 1))
  unfolding head_at
  off_at k l = part_at 0 k k l (omega arith) (omega arith)

  slot_at : (k : ℕ) → k < 32 → get_or whole (32 + k) 0 ≡ slot_by h d (step T (k + 1))
  unfolding head_at
  slot_at k l = part_at 1 k (32 + k) l (omega arith) (omega arith)

  back_at : (k : ℕ) → k < 32 → get_or whole (64 + k) 0 ≡ (step T (k + 1)).back
  unfolding head_at
  back_at k l = part_at 2 k (64 + k) l (omega arith) (omega arith)

  namer-at : (k : ℕ) → k < 32 → get_or whole (96 + k) 0 ≡ namer T k - 1
  unfolding head_at
  namer-at k l = part_at 3 k (96 + k) l (omega arith) (omega arith)

  falls_at : (k : ℕ) → k < 32 → get_or whole (128 + k) 0 ≡ bit (falls T k)
  unfolding head_at
  falls_at k l = part_at 4 k (128 + k) l (omega arith) (omega arith)

  rises-at : (k : ℕ) → k < 32 → get_or whole (160 + k) 0 ≡ bit (rises_by (named T k))
  unfolding head_at
  rises-at k l = part_at 5 k (160 + k) l (omega arith) (omega arith)

  -- NUMBERS
  module _ (g : ℕ) (l : g < nodes_of h d) where
    rows-lt : g / (d + 1) < h * sheets_of d
    rows-lt =
        let w : 0 < d + 1 = omega arith in
        let m : g < sheets_of d * h * (d + 1) = subst (λ (n : ℕ). g < n) (nodes-of h d r ∙ by-sheets h (d + 1) (sheets_of d)) l in
        rw (mul_comm h (sheets_of d)) ((div-lt_iff_lt-mul w).1 m)

    number-at : get_or whole (entry g) 0 ≡ number_of h d (place_at h d g)
    number-at =
        let w = d + 1 in
        let few = window-le h d r in
        let e : 512 + g / w * w + g % w ≡ entry g = omega (arith, div-add-mod' g w) in
        let n : nodes_of h d ≡ nodes_in h d (sheets_of d) = nodes-of h d r in
        let room : h * sheets_of d * w ≡ nodes_of h d = ap (λ (x : ℕ). x * w) (mul_comm h (sheets_of d)) ∙ sym (n ∙ by-sheets h w (sheets_of d)) in
        before-fresh (entry g) (omega arith)
        ∙ ap (λ (x : ℕ). get_or numbers x 0) (sym e)
        ∙ blocks_at {A = ℕ} 512 w (row_of h d) w 0 (h * sheets_of d) heads (g / w) (g % w) (omega arith) rows-lt (column-lt h d r g) (omega (arith, heads-long, room))
        ∙ row_number_lem h d r g

    -- boundary nodes have the lower numbers
    detects-at : leb (boundary_nodes h d) (get_or whole (entry g) 0) ≡ not (boundary d (place_at h d g).column)
    detects-at =
        rw number-at
        (whether (boundary d (place_at h d g).column)
        (λ t. rw t (lt-leb (boundary_nodes h d) _ (side-low t)))
        (λ t. rw t (le-leb (boundary_nodes h d) _ (omega (arith, number-detector h d (place_at h d g) t)))))
      where
        pairs : (h s n : ℕ) → n < h * s → n * 2 + 1 < 2 * h * (s + 1)
        pairs h s n l = let a = mul-add (2 * h) s 1 in let b = mul-one (2 * h) in let c = mul_assoc 2 h s in omega arith

        side-low : boundary d (place_at h d g).column ≡ true → number_of h d (place_at h d g) < boundary_nodes h d
        side-low t = omega (arith, by_side h d r g t, side-lt (place_at h d g).column, pairs h (sheets_of d) (g / (d + 1)) rows-lt)

  -- EDGES
  fresh_at : (kind r' c : ℕ) → kind < T.kinds → r' < h → c ≤ d → get_or whole (plane + 240 * kind + (r' * (d + 1) + c)) 0 ≡ fresh_by (spans h d (named T kind) r' c)
  fresh_at kind r' c k l m =
      let w = d + 1 in
      let x = plane + 240 * kind + (r' * w + c) in
      let n : c < w = omega arith in
      let b = before w r' c n h l in
      let most = sheet-most h d ok in
      let six = room.kinds in
      let e : plane + 240 * kind + r' * w + c ≡ x = omega arith in
      let long = long-fresh kind in
      before-places x (omega arith)
      ∙ passes_at (fresh_on T h d) 0 x T.kinds kind k
      (λ j lo hi l'. blocks-before {A = ℕ} (plane + 240 * j) w (fresh_in (area_of h d (named T j))) w 0 h l' x (omega arith)) numbers
      ∙ ap (λ (y : ℕ). get_or (fresh_on T h d kind (passes (fresh_on T h d) kind numbers)) y 0) (sym e)
      ∙ blocks_at {A = ℕ} (plane + 240 * kind) w (fresh_in (area_of h d (named T kind))) w 0 h (passes (fresh_on T h d) kind numbers) r' c (omega arith) l n (omega arith)
      ∙ ap fresh_by (sym (spans-box h d (named T kind) (namer-moves T S kind k) r' c))

  module _ (i : ℕ) (l : i < layer_edges T h d) where
    abbrev e : Edge
    e = edge_of T h d i

    abbrev st : Step
    st = named T e.kind

    has : Has T h d e
    has = number-has T h d r.h1 i l

    -- its row and column in the rectangle
    inside : (row_first st ≤ e.row) × (e.row < row_end h st) × (column_first st ≤ e.column) × (e.column < column_end d st)
    inside =
        let t = halves (within (row_first st) (row_end h st) e.row) (within (column_first st) (column_end d st) e.column) (sym (spans-box h d st (namer-moves T S e.kind has.kind) e.row e.column) ∙ has.there) in
        let u = halves (leb (row_first st) e.row) _ t.0 in
        let v = halves (leb (column_first st) e.column) _ t.1 in
        (leb-true _ _ u.0, ltb-true _ _ u.1, leb-true _ _ v.0, ltb-true _ _ v.1)

    number_is : areas T h d e.kind + (e.row - row_first st) * columns d st + (e.column - column_first st) ≡ i
    number_is = sym (number-closed T S h d e has) ∙ number-edge T h d r.h1 i l

    place_at_lem : place_in whole i ≡ cell e.kind (entry (index_of h d (node_of (sheets_of d - 1) e)))
    unfolding index_of
    place_at_lem =
        let kind = e.kind in
        let n = columns d st in
        let r' = e.row - row_first st in
        let c = e.column - column_first st in
        let at = inside in
        let at0 = at.0 in
        let at1 = at.1 in
        let at2 = at.2 in
        let at3 = at.3 in
        let rl : r' < rows h st = omega arith in
        let cl : c < n = omega arith in
        let b = before n r' c cl (rows h st) rl in
        let z = number_is in
        let k = has.kind in
        let six = room.kinds in
        let more = areas-next T room h d kind in
        let most = areas-le T room h d ok (kind + 1) in
        let x : 6144 + areas T h d kind + r' * n + c ≡ 6144 + i = omega arith in
        let long = long-places kind in
        passes_at (places_on T h d bottom) 0 (6144 + i) T.kinds kind k
        (λ j lo hi l'. let m = areas-mono T room h d kind j lo in blocks-before {A = ℕ} (6144 + areas T h d j) (columns d (named T j)) (place_row d bottom (named T j) j) (columns d (named T j)) 0 (rows h (named T j)) l' (6144 + i) (omega arith)) freshes
        ∙ ap (λ (y : ℕ). get_or (places_on T h d bottom kind (passes (places_on T h d bottom) kind freshes)) y 0) (sym x)
        ∙ blocks_at {A = ℕ} (6144 + areas T h d kind) n (place_row d bottom st kind) n 0 (rows h st) (passes (places_on T h d bottom) kind freshes) r' c (omega arith) rl cl (omega arith)
        ∙ place-sum h (d + 1) (sheets_of d) (nodes_of h d) kind (row_first st) (column_first st) e.row e.column (sheets-are h d ok) at0 at2

  filled : Filled T h d whole
  filled =
      record {
        long = long-places T.kinds;
        safe = record {
          dirs = room.dirs;
          kinds = room.kinds;
          nodes = omega (arith, nodes-of h d r, window-le h d r);
          sheet = sheet-most h d ok;
          sheets = omega (arith, sheets-are h d ok);
          offs = λ k l. let n = off-low h d ok (step T (k + 1)) (room.steps k l) in omega (arith, off_at k l);
          slots = λ k l. let n = slot-low h d ok (step T (k + 1)) (room.steps k l) in omega (arith, slot_at k l);
          backs = λ k l. let n = (near h d ok (step T (k + 1)) (room.steps k l)).pointer in omega (arith, back_at k l);
          namers = λ kind l. let n = namer-low T room kind in omega (arith, namer-at kind (omega arith));
        };
        planned = record {
          dirs = refl;
          kinds = refl;
          offs = λ k l. let m = room.dirs in let n = (near h d ok (step T (k + 1)) (room.steps k (omega arith))).back in omega (arith, off_at k (omega arith));
          most = λ k l. let m = room.dirs in let n = off-low h d ok (step T (k + 1)) (room.steps k (omega arith)) in omega (arith, off_at k (omega arith));
          slots = λ k l. let m = room.dirs in let low : k < 32 = omega arith in slot_at k low ∙ ap (λ (x : ℕ). cell (step T (k + 1)).kind (if (step T (k + 1)).own 512 x)) (sym (off_at k low));
          backs = λ k l. let m = room.dirs in back_at k (omega arith);
          namers = λ kind l. let m = room.kinds in let n = S.named kind l in omega (arith, namer-at kind (omega arith));
          down = λ p l. let m = room.dirs in rw (falls_at p (omega arith)) (told (falls T p));
          number = λ g l. number-at g l;
          detects = λ g l. detects-at g l;
        };
        rises = λ kind l. let m = room.kinds in rises-at kind (omega arith);
        fresh = fresh_at;
        places = place_at_lem;
      }
    where
      told : (b : Bool) → eqb (bit b) 1 ≡ b
      told true = refl
      told false = refl

  -- as the code's parts leave it
  pub filled-by : (z : Sizes) (t₀ t₁ t₂ t₃ t₄ : List ℕ) → z ≡ sizes_of T h d → t₀ ≡ zeros → t₁ ≡ stored 0 (head_of T h d) 192 t₀ → t₂ ≡ blocks 512 (d + 1) (row_of h d) (d + 1) (h * sheets_of d) t₁
      → t₃ ≡ passes (fresh_on T h d) T.kinds t₂ → t₄ ≡ passes (places_on T h d (512 + z.nodes - z.sheet)) T.kinds t₃ → Filled T h d t₄
  filled-by z t₀ t₁ t₂ t₃ t₄ e e₀ e₁ e₂ e₃ e₄ =
      subst (Filled T h d)
      (sym (e₄
      ∙ ap (λ (y : Sizes). passes (places_on T h d (512 + y.nodes - y.sheet)) T.kinds t₃) e
      ∙ ap (passes (places_on T h d bottom) T.kinds) (e₃ ∙ ap (passes (fresh_on T h d) T.kinds) (e₂ ∙ ap (blocks 512 (d + 1) (row_of h d) (d + 1) (h * sheets_of d)) (e₁ ∙ ap (stored 0 (head_of T h d) 192) e₀)))))
      filled
