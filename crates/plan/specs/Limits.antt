-- No number of the table wraps. Assumes nothing.
use Prim.Native.Nat.{ℕ, zero, suc, ◌+◌, ◌-◌, ◌*◌, ◌≤◌, ◌<◌}
use Rattle.std.proofs.Common.{mul-le-mul, mul-le-mul_right, add-one, ◌∙◌, leb-true}
use native.Mathlib.Omega.{arith}
use Rattle.std.specs.Prelude.{◌≡◌, Bool, true, false, leb, length}
use Rattle.std.proofs.Math.Path.{refl}
use Rattle.std.proofs.Math.Logic.{⊎_elim}
use Rattle.shape.specs.Choice.{if, whether, if-true, if-false, order}
use Rattle.shape.specs.Ranges.{Ranged}
use Rattle.shape.proofs.Ranges.{ranged, halves, sheets-le}
use Rattle.shape.specs.Sizes.{in_range, sheets_of}
use Rattle.shape.specs.Nodes.{index_of, boundary_nodes}
use Rattle.steps.specs.Steps.{Table, base, step, namer, beside}
use Rattle.steps.specs.Models.{circuit, of_model}
use Rattle.steps.proofs.Models.{of-both, few-dirs, few-kinds}
use Rattle.steps.specs.Suited.{naming-at}
use Rattle.steps.specs.Offsets.{back_by, on_by}
use Rattle.steps.specs.declared.Shift.{Shift}
use Rattle.steps.specs.declared.Step.{Step}
use Rattle.window.specs.Lists.{every}
use Rattle.window.specs.LawsLists.{every-at}
use Rattle.layers.specs.Layers.{spot}
use Rattle.layers.specs.Boxes.{row_first, column_first, rows, columns, area, areas, named}
use Rattle.plan.specs.Table.{nearby, small, off_by, slot_by}

-- STEPS

-- one sheet, one row and one column at most
short : (h d a b c : ℕ) → Ranged h d → a ≤ 1 → b ≤ 1 → c ≤ 1 → (a * h + b) * (d + 1) + c ≤ 257
short h d a b c r p q t =
    let x = r.h-max in
    let y = r.d-max in
    let u : a * h ≤ 15 = mul-le-mul {n₂ = 1} {m₂ = 15} p x in
    let v : a * h + b ≤ 16 = omega arith in
    let z : d + 1 ≤ 16 = omega arith in
    let m : (a * h + b) * (d + 1) ≤ 256 = mul-le-mul {n₂ = 16} {m₂ = 16} v z in
    omega arith

pub record Near (h d : ℕ) (st : Step) : Type 0 where
  pub on : on_by h d st ≤ 257
  pub back : back_by h d st ≤ 257
  pub kind : st.kind ≤ 5
  pub pointer : st.back ≤ 12

by_one : (s : Shift) → nearby s ≡ true → (s.less ≤ 1) × (s.more ≤ 1)
by_one s e = let a = halves (leb s.less 1) (leb s.more 1) e in (leb-true _ _ a.0, leb-true _ _ a.1)

module _ (h d : ℕ) (ok : in_range h d ≡ true) (st : Step) (s : small st ≡ true) where
  pub near : Near h d st
  near =
      let r = ranged h d ok in
      let a = halves _ (leb st.back 12) s in
      let b = halves _ (leb st.kind 5) a.0 in
      let c = halves _ (nearby st.sheet) b.0 in
      let e = halves (nearby st.row) (nearby st.column) c.0 in
      let row = by_one st.row e.0 in
      let column = by_one st.column e.1 in
      let sheet = by_one st.sheet c.1 in
      record {
        on = short h d st.sheet.more st.row.more st.column.more r sheet.1 row.1 column.1;
        back = short h d st.sheet.less st.row.less st.column.less r sheet.0 row.0 column.0;
        kind = leb-true _ _ b.1;
        pointer = leb-true _ _ a.1;
      }

  pub off-low : off_by h d st ≤ 769
  off-low = let n = near in omega (arith, n.on)

  -- the two ends of a step as places
  module _ (on back : ℕ) (e : on ≡ index_of h d (spot st.sheet.more st.row.more st.column.more)) (f : back ≡ index_of h d (spot st.sheet.less st.row.less st.column.less)) where
    pub ends_low : (on ≤ 257) × (back ≤ 257)
    unfolding index_of
    ends_low = let n = near in (rw e n.on, rw f n.back)

    pub off-is : 512 + on - back ≡ off_by h d st
    unfolding index_of
    off-is = rw (e, f)

  pub end_low : if st.own 512 (off_by h d st) ≤ 769
  end_low = whether st.own (λ t. rw (if-true {A = ℕ} st.own 512 (off_by h d st) t) (omega arith)) (λ t. rw (if-false {A = ℕ} st.own 512 (off_by h d st) t) off-low)

  pub slot-low : slot_by h d st ≤ 23809
  slot-low = let n = near in let m = n.kind in omega (arith, mul-le-mul_right 4608 m, end_low)

-- A TABLE for which there is room: up to 12 directions, 6 kinds, small steps; what is no step is small too
pub record Roomy (T : Table) : Type 0 where
  pub dirs : length T.steps ≤ 12
  pub kinds : T.kinds ≤ 6
  pub steps : (k : ℕ) → k < 32 → small (step T (k + 1)) ≡ true

small-steps : (every 32 (λ k. small (step base (k + 1))) ≡ true) × (every 32 (λ k. small (step circuit (k + 1))) ≡ true)
unfolding base circuit every
small-steps = (refl, refl)

pub roomy-model : (m : ℕ) → Roomy (of_model m)
roomy-model m =
    record {
      dirs = few-dirs m;
      kinds = few-kinds m;
      steps = λ k l.
          of-both (λ (T : Table). small (step T (k + 1)) ≡ true) m
          (every-at (λ k. small (step circuit (k + 1))) 32 small-steps.1 k l)
          (every-at (λ k. small (step base (k + 1))) 32 small-steps.0 k l);
    }

module _ (T : Table) (room : Roomy T) (kind : ℕ) where
  pub namer-low : namer T kind ≤ 12
  namer-low =
      ⊎_elim (λ (l : namer T kind < 1). omega arith)
      (λ l. let f = naming-at T.steps kind 1 l in omega (arith, f.is, f.within, room.dirs))
      (order (namer T kind) 1)

  pub small-named : small (named T kind) ≡ true
  small-named =
      ⊎_elim
      (λ (l : namer T kind < 1). let e : namer T kind ≡ 0 = omega arith in rw e refl)
      (λ l. let m = namer-low in let e : namer T kind - 1 + 1 ≡ namer T kind = omega arith in rw e at (room.steps (namer T kind - 1) (omega arith)))
      (order (namer T kind) 1)

-- ROWS, counted through all sheets

pub record RowLow (d n r bound inner : ℕ) : Type 0 where
  pub entry : r * (d + 1) ≤ 3600
  pub low : r * 2 ≤ 450
  pub high : r * inner ≤ 3375
  pub wide : d ≤ 15
  pub first : 1 ≤ bound
  pub few : bound ≤ 480
  pub count : n ≤ 225
  pub columns : inner ≤ 15

pub row_low : (h d n r bound inner d' h' s' : ℕ) → in_range h d ≡ true → h' ≡ h → s' ≡ sheets_of d → n ≡ h' * s' → bound ≡ boundary_nodes h d → inner ≡ d - 1 → d' ≡ d → r ≤ n → RowLow d' n r bound inner
row_low h d n r bound inner d' h' s' ok eh es en' eb ei ed l =
    let en : n ≡ h * sheets_of d = en' ∙ rw (eh, es) in
    let R = ranged h d ok in
    let x = R.h-max in
    let y = R.d-max in
    let u = R.h1 in
    let s = sheets-le d y in
    let c : h * sheets_of d ≤ 225 = mul-le-mul {n₂ = 15} {m₂ = 15} x s in
    let a : r ≤ 225 = omega arith in
    let w : d' + 1 ≤ 16 = omega arith in
    let i : inner ≤ 15 = omega arith in
    let p : 2 * h ≤ 30 = omega arith in
    let q : sheets_of d + 1 ≤ 16 = omega arith in
    let b : 2 * h * (sheets_of d + 1) ≤ 480 = mul-le-mul {n₂ = 30} {m₂ = 16} p q in
    let p' : 2 ≤ 2 * h = omega arith in
    let q' : 1 ≤ sheets_of d + 1 = omega arith in
    let b' : 2 ≤ 2 * h * (sheets_of d + 1) = mul-le-mul {n₁ = 2} {m₁ = 1} p' q' in
    record {
      entry = mul-le-mul {n₂ = 225} {m₂ = 16} a w;
      low = omega arith;
      high = mul-le-mul {n₂ = 225} {m₂ = 15} a i;
      wide = omega arith;
      first = omega arith;
      few = omega arith;
      count = omega arith;
      columns = i;
    }

pub bound-low : (h d : ℕ) → in_range h d ≡ true → boundary_nodes h d ≤ 480
bound-low h d ok = (row_low h d (h * sheets_of d) 0 (boundary_nodes h d) (d - 1) d h (sheets_of d) ok refl refl refl refl refl refl (omega arith)).few

-- rows of one sheet
pub sheet-low : (h d r : ℕ) → in_range h d ≡ true → r ≤ h → r * (d + 1) ≤ 240
sheet-low h d r ok l = let R = ranged h d ok in let x = R.h-max in let y = R.d-max in let a : r ≤ 15 = omega arith in let b : d + 1 ≤ 16 = omega arith in mul-le-mul {n₂ = 15} {m₂ = 16} a b

-- EDGES

pub record AreaLow (h d : ℕ) (st : Step) : Type 0 where
  pub top : row_first st ≤ 1
  pub left : column_first st ≤ 2
  pub rows : rows h st ≤ h
  pub columns : columns d st ≤ d + 1

module _ (h d : ℕ) (st : Step) (s : small st ≡ true) where
  pub area-low : AreaLow h d st
  area-low =
      let a = halves _ (leb st.back 12) s in
      let b = halves _ (leb st.kind 5) a.0 in
      let c = halves _ (nearby st.sheet) b.0 in
      let e = halves (nearby st.row) (nearby st.column) c.0 in
      let r = (by_one st.row e.0).0 in
      let t = (by_one st.column e.1).0 in
      record { top = omega arith; left = first-low (beside st) t; rows = omega arith; columns = few (beside st) }
    where
      first-low : (b : Bool) → st.column.less ≤ 1 → if b (st.column.less - st.column.more) (1 + (st.column.less - st.column.more)) ≤ 2
      first-low true t = omega arith
      first-low false t = omega arith

      few : (b : Bool) → if b (d + 1 - (st.column.more - st.column.less)) (d - (st.column.more - st.column.less)) - if b (st.column.less - st.column.more) (1 + (st.column.less - st.column.more)) ≤ d + 1
      few true = omega arith
      few false = omega arith

-- so many edges of a kind
pub area-le : (h d : ℕ) (st : Step) → in_range h d ≡ true → small st ≡ true → area h d st ≤ 240
area-le h d st ok s =
    let R = ranged h d ok in
    let x = R.h-max in
    let y = R.d-max in
    let A = area-low h d st s in
    let a = A.rows in
    let b = A.columns in
    let u : rows h st ≤ 15 = omega arith in
    let v : columns d st ≤ 16 = omega arith in
    mul-le-mul {n₂ = 15} {m₂ = 16} u v

module _ (T : Table) (room : Roomy T) (h d : ℕ) where
  pub areas-le : in_range h d ≡ true → (k : ℕ) → areas T h d k ≤ 240 * k
  unfolding areas
  areas-le ok zero = omega arith
  areas-le ok (suc k) = omega (arith, areas-le ok k, area-le h d (named T k) ok (small-named T room k))

  pub areas-next : (k : ℕ) → areas T h d k + rows h (named T k) * columns d (named T k) ≡ areas T h d (k + 1)
  unfolding areas
  areas-next k = rw (add-one k) refl

  -- the edges of a kind come before those of a later one
  pub areas-mono : (k j : ℕ) → k < j → areas T h d k + area h d (named T k) ≤ areas T h d j
  unfolding areas
  areas-mono k zero l = absurd (omega arith)
  areas-mono k (suc j) l =
      ⊎_elim (λ m. omega (arith, areas-mono k j m)) (λ (m : j ≤ k). let e : j ≡ k = omega arith in rw e (omega arith)) (order k j)
