-- What the loops of the table leave, by what the code calls its parts. Assumes nothing.
use Rattle.std.specs.Prelude.{ℕ, ◌+◌, ◌-◌, ◌*◌, ◌≤◌, ◌<◌, ◌≡◌, true, false}
use Rattle.std.proofs.Common.{mul-le-mul, arith, sym, ◌∙◌, ap}
use Rattle.shape.specs.Choice.{if-true, if-false}
use Rattle.shape.proofs.Ranges.{ranged}
use Rattle.shape.specs.Sizes.{in_range}
use Rattle.shape.specs.Nodes.{boundary_nodes}
use Rattle.steps.specs.Steps.{beside}
use Rattle.steps.specs.declared.Step.{Step}
use Rattle.layers.specs.Boxes.{first, end, row_first, row_end, column_first, column_end, rows, columns}
use Rattle.flat.specs.Entries.{plane}
use Rattle.plan.specs.Passes.{row-after}
use Rattle.plan.specs.Table.{small, row_number, row_of, area_of, place_row}
use Rattle.plan.specs.Limits.{area-low, area-le, sheet-low}
use Rattle.plan.specs.declared.Area.{Area}

-- the rows of numbers
pub rows_are : (h d d' bound inner : ℕ) → d' ≡ d → bound ≡ boundary_nodes h d → inner ≡ d - 1 → ◌≡◌ {A = ℕ → ℕ → ℕ} (λ k. row_number d' (k * 2) (bound - 1 + k * inner)) (row_of h d)
rows_are h d d' bound inner a b c =
    ap {B = ℕ → ℕ → ℕ} (λ (x : ℕ). λ k. row_number x (k * 2) (bound - 1 + k * inner)) a
    ∙ ap {B = ℕ → ℕ → ℕ} (λ (x : ℕ). λ k. row_number d (k * 2) (x - 1 + k * inner)) b
    ∙ ap {B = ℕ → ℕ → ℕ} (λ (x : ℕ). λ k. row_number d (k * 2) (boundary_nodes h d - 1 + k * x)) c

abbrev area_by : ℕ → ℕ → ℕ → ℕ → Area
area_by top bottom left right = record { top = top; bottom = bottom; left = left; right = right }

by_parts : (h d top bottom left right : ℕ) (st : Step) → top ≡ row_first st → bottom ≡ row_end h st → left ≡ column_first st → right ≡ column_end d st → area_by top bottom left right ≡ area_of h d st
by_parts h d top bottom left right st p q u v =
    ap (λ (n : ℕ). area_by n bottom left right) p
    ∙ ap (λ (n : ℕ). area_by (row_first st) n left right) q
    ∙ ap (λ (n : ℕ). area_by (row_first st) (row_end h st) n right) u
    ∙ ap (λ (n : ℕ). area_by (row_first st) (row_end h st) (column_first st) n) v

-- a step's rectangle, by whether it leads to the row neighbour
module _ (h d h' d' top bottom left right : ℕ) (st st' : Step) (e : st ≡ st') (eh : h' ≡ h) (ed : d' ≡ d) (a : top ≡ first st.row) (b : bottom ≡ end st.row h') where
  pub area-beside : beside st ≡ true → left ≡ first st.column → right ≡ end st.column (d' + 1) → area_by top bottom left right ≡ area_of h d st'
  area-beside t l r =
      let x : column_first st ≡ first st.column = if-true (beside st) (first st.column) (1 + first st.column) t in
      let y : column_end d st ≡ end st.column (d + 1) = if-true (beside st) (end st.column (d + 1)) (end st.column d) t in
      by_parts h d top bottom left right st a (b ∙ ap (end st.row) eh) (l ∙ sym x) (r ∙ ap (λ (n : ℕ). end st.column (n + 1)) ed ∙ sym y) ∙ ap (area_of h d) e

  pub area-else : beside st ≡ false → left ≡ 1 + first st.column → right ≡ end st.column d' → area_by top bottom left right ≡ area_of h d st'
  area-else t l r =
      let x : column_first st ≡ 1 + first st.column = if-false (beside st) (first st.column) (1 + first st.column) t in
      let y : column_end d st ≡ end st.column d = if-false (beside st) (end st.column (d + 1)) (end st.column d) t in
      by_parts h d top bottom left right st a (b ∙ ap (end st.row) eh) (l ∙ sym x) (r ∙ ap (end st.column) ed ∙ sym y) ∙ ap (area_of h d) e

-- THE BOTTOM LAYER'S EDGES of a kind: m rows of n edges

pub record PlacesLow (top left m n w : ℕ) : Type 0 where
  pub left-low : left ≤ 2
  pub top-low : top ≤ 1
  pub first : top * w ≤ 16
  pub wide : w ≤ 16
  pub few : n ≤ 16
  pub edges : (i : ℕ) → i < m → i * n + n ≤ 240
  pub rows : (i : ℕ) → i ≤ m → i * w ≤ 240

module _ (h d : ℕ) (st : Step) (ok : in_range h d ≡ true) (s : small st ≡ true) (a : Area) (m n d' : ℕ) (ea : a ≡ area_of h d st) (en : n ≡ a.right - a.left) (em : m ≡ a.bottom - a.top) (ed : d' ≡ d) where
  pub rows_is : m ≡ rows h st
  rows_is = em ∙ ap (λ (x : Area). x.bottom - x.top) ea

  pub columns-is : n ≡ columns d st
  columns-is = en ∙ ap (λ (x : Area). x.right - x.left) ea

  pub places-low : PlacesLow a.top a.left m n (d' + 1)
  places-low =
      let R = ranged h d ok in
      let hi = R.h-max in
      let di = R.d-max in
      let A = area-low h d st s in
      let w : d' + 1 ≤ 16 = omega arith in
      let t : a.top ≤ 1 = rw ea A.top in
      let ar = area-le h d st ok s in
      let e : m * n ≤ 240 = rw (rows_is, columns-is) ar in
      record {
        left-low = rw ea A.left;
        top-low = t;
        first = mul-le-mul {n₂ = 1} {m₂ = 16} t w;
        wide = w;
        few = let c = columns-is in let b = A.columns in omega arith;
        edges = λ i l. let z = row-after i m n l in omega arith;
        rows = λ i l. let c = rows_is in let b = A.rows in rw ed (sheet-low h d i ok (omega arith));
      }

  -- the first of them, and all
  module _ (kind kind' bottom part from : ℕ) (ek : kind' ≡ kind) (ep : part ≡ a.top * (d' + 1)) (ef : from ≡ plane * kind' + bottom + part + a.left) where
    first-is : from ≡ plane * kind + bottom + row_first st * (d + 1) + column_first st
    first-is = ef ∙ rw (ek, ep, ed, ea)

    pub places-are : ◌≡◌ {A = ℕ → ℕ → ℕ} (λ r j. from + r * (d' + 1) + j) (place_row d bottom st kind)
    places-are =
        ap {B = ℕ → ℕ → ℕ} (λ (x : ℕ). λ r j. x + r * (d' + 1) + j) first-is
        ∙ ap {B = ℕ → ℕ → ℕ} (λ (x : ℕ). λ r j. plane * kind + bottom + row_first st * (d + 1) + column_first st + r * (x + 1) + j) ed
