-- A LAYER'S NUMBERS IN CLOSED FORM, for any table: the edges of a kind fill a rectangle of rows and columns. Assumes nothing.
use Prim.Native.Nat.{ℕ, zero, suc, ◌+◌, ◌-◌, ◌*◌, ◌/◌, ◌%◌, ◌≤◌, ◌<◌, min}
use Rattle.std.proofs.Math.Nat.{add-mul, one-mul, zero-mul}
use Rattle.std.proofs.Common.{add_assoc, ◌∙◌, ⊎_elim, ltb-true, leb-true, lt-ltb, le-leb, le-ltb}
use native.Mathlib.Omega.{arith}
use Rattle.std.specs.Prelude.{◌≡◌, Bool, false, ◌&&◌, ◌||◌, not, ltb, leb}
use Rattle.std.proofs.Math.Path.{refl, sym, ap, ap₂}
use Rattle.std.proofs.Math.Bool.{true}
use Rattle.std.proofs.lemmas.Bool.{lt-leb, not-true}
use Rattle.shape.specs.Choice.{if, order}
use Rattle.shape.proofs.Ranges.{halves, both}
use Rattle.shape.specs.Sizes.{boundary}
use Rattle.shape.specs.Boundaries.{between, not_end}
use Rattle.shape.specs.Counting.{quotient, rest}
use Rattle.steps.specs.Steps.{Table, goes, fits, stays, beside, both_detectors}
use Rattle.steps.proofs.Joins.{clear, clear-fits}
use Rattle.layers.specs.declared.Edge.{Edge}
use Rattle.steps.specs.declared.Shift.{Shift}
use Rattle.steps.specs.declared.Step.{Step}
use Rattle.steps.specs.Ranks.{bit, rank, rank-add, rank_same}
use Rattle.steps.specs.Suited.{Suited, namer-moves}
use Rattle.layers.specs.Layers.{spot, spans, edge_in, count_of, has, has_at, edge_number, layer_edges}
use Rattle.layers.proofs.Layers.{Has}
use Rattle.layers.specs.Boxes.{area, areas, boxed, column_end, column_first, columns, end, first, named, row_end, row_first, rows, within}

same_test : (a b : Bool) → (a ≡ true → b ≡ true) → (b ≡ true → a ≡ true) → a ≡ b
same_test true true f g = refl
same_test true false f g = sym (f refl)
same_test false true f g = g refl
same_test false false f g = refl

pub within_by : (a b x : ℕ) → a ≤ x → x < b → within a b x ≡ true
within_by a b x l m = both _ _ (le-leb a x l) (lt-ltb x b m)

within-is : (a b x : ℕ) → within a b x ≡ true → (a ≤ x) × (x < b)
within-is a b x e = let t = halves (leb a x) (ltb x b) e in (leb-true a x t.0, ltb-true x b t.1)

-- one coordinate of n entries
shift_in : (s : Shift) (a n : ℕ) → a < n → fits s a n ≡ true → within (first s) (end s n) a ≡ true
shift_in s a n l e = let t = clear s a n e in let u = t.0 in let v = t.1 in within_by (first s) (end s n) a (omega arith) (omega arith)

shift-out : (s : Shift) (a n : ℕ) → within (first s) (end s n) a ≡ true → (a < n) × (fits s a n ≡ true)
shift-out s a n e = let t = within-is (first s) (end s n) a e in let u = t.0 in let v = t.1 in (omega arith, clear-fits s a n (omega arith) (omega arith))

no_end_lem : (d c : ℕ) → not (boundary d c) ≡ true → c ≤ d → (1 ≤ c) × (c < d)
no_end_lem d c e l = between d c (not-true (boundary d c) e) l

module _ (h d : ℕ) (st : Step) (moves : stays st ≡ false) (r c : ℕ) where
  abbrev C : Bool
  C = within (column_first st) (column_end d st) c

  columns-in : c ≤ d → fits st.column c (d + 1) ≡ true → (beside st || both_detectors d st (spot 0 r c)) ≡ true → C ≡ true
  columns-in l f k = go (beside st) refl k
    where
      go : (b : Bool) → beside st ≡ b → (b || both_detectors d st (spot 0 r c)) ≡ true → within (if b (first st.column) (1 + first st.column)) (if b (end st.column (d + 1)) (end st.column d)) c ≡ true
      go true e k = shift_in st.column c (d + 1) (omega arith) f
      go false e k =
          let t = halves (not (boundary d c)) (not (boundary d (goes st.column c))) k in
          let u = clear st.column c (d + 1) f in
          let u0 = u.0 in
          let u1 = u.1 in
          let v = no_end_lem d c t.0 l in
          let v0 = v.0 in
          let v1 = v.1 in
          let w = no_end_lem d (goes st.column c) t.1 (omega arith) in
          let w0 = w.0 in
          let w1 = w.1 in
          within_by (1 + first st.column) (end st.column d) c (omega arith) (omega arith)

  columns-out : C ≡ true → (c ≤ d) × (fits st.column c (d + 1) ≡ true) × ((beside st || both_detectors d st (spot 0 r c)) ≡ true)
  columns-out k = go (beside st) refl k
    where
      go : (b : Bool) → beside st ≡ b → within (if b (first st.column) (1 + first st.column)) (if b (end st.column (d + 1)) (end st.column d)) c ≡ true
          → (c ≤ d) × (fits st.column c (d + 1) ≡ true) × ((b || both_detectors d st (spot 0 r c)) ≡ true)
      go true e k = let t = shift-out st.column c (d + 1) k in (omega (arith, t.0), t.1, refl)
      go false e k =
          let t = within-is (1 + first st.column) (end st.column d) c k in
          let u = t.0 in
          let v = t.1 in (
            omega arith,
            clear-fits st.column c (d + 1) (omega arith) (omega arith),
            both _ _ (ap not (not_end d c (omega arith) (omega arith))) (ap not (not_end d (goes st.column c) (omega arith) (omega arith))),
          )

  -- there is an edge exactly in the rectangle
  pub spans-box : spans h d st r c ≡ boxed h d st r c
  unfolding spans
  spans-box = same_test _ _ there back
    where
      there : spans h d st r c ≡ true → boxed h d st r c ≡ true
      there e =
          let a = halves _ _ e in
          let b = halves _ _ a.0 in
          let g = halves _ _ b.0 in
          let i = halves _ _ g.0 in
          let n = halves (ltb r h) (leb c d) i.0 in
          both _ _ (shift_in st.row r h (ltb-true r h n.0) i.1) (columns-in (leb-true c d n.1) g.1 a.1)

      back : boxed h d st r c ≡ true → spans h d st r c ≡ true
      back e =
          let t = halves (within (row_first st) (row_end h st) r) C e in
          let u = shift-out st.row r h t.0 in
          let v = columns-out t.1 in
          both _ _ (both _ _ (both _ _ (both _ _ (both _ _ (lt-ltb r h u.0) (le-leb c d v.0)) u.1) v.1) (ap not moves)) v.2

-- COUNTING A RECTANGLE

bit_in : (b : Bool) → b ≡ true → bit b ≡ 1
bit_in true e = refl
bit_in false e = cc

bit-out : (b : Bool) → b ≡ false → bit b ≡ 0
bit-out false e = refl
bit-out true e = cc

and_no : (a b : Bool) → b ≡ false → a && b ≡ false
and_no true b e = e
and_no false b e = refl

rank-within : (a b n : ℕ) → rank (within a b) n ≡ min n b - a
unfolding rank
rank-within a b zero = omega arith
rank-within a b (suc n) =
    let i = rank-within a b n in
    ⊎_elim
    (λ l. rw (rank, bit-out (within a b n) (rw (lt-leb a n l) refl)) (omega arith))
    (λ l. ⊎_elim
    (λ m. rw (rank, bit_in (within a b n) (within_by a b n l m)) (omega arith))
    (λ m. rw (rank, bit-out (within a b n) (and_no (leb a n) (ltb n b) (le-ltb n b m))) (omega arith))
    (order n b))
    (order n a)

rank-none : (n : ℕ) → rank (λ x. false) n ≡ 0
unfolding rank
rank-none zero = refl
rank-none (suc n) = rw (rank, rank-none n) refl

-- a row of the rectangle, or one beside it
rank-row : (b : Bool) (x y n : ℕ) → rank (λ c. b && within x y c) n ≡ bit b * (min n y - x)
rank-row true x y n = rank-within x y n ∙ sym (one-mul (min n y - x))
rank-row false x y n = rank-none n ∙ sym (zero-mul (min n y - x))

-- rows of w entries, of which the rectangle's have those from x to before y
module _ (f : ℕ → Bool) (a b x y w n : ℕ) (fits : y ≤ w) (is : (r c : ℕ) → r < n → c < w → f (r * w + c) ≡ within a b r && within x y c) where
  row_is : (r m : ℕ) → r < n → m ≤ w → rank (λ c. f (r * w + c)) m ≡ bit (within a b r) * (min m y - x)
  row_is r m l k = rank_same (λ c. f (r * w + c)) (λ c. within a b r && within x y c) m (λ c j. is r c l (omega arith)) ∙ rank-row (within a b r) x y m

  pub rows_are : (r : ℕ) → r ≤ n → rank f (r * w) ≡ (min r b - a) * (y - x)
  unfolding rank
  rows_are zero l = let e : 0 * w ≡ 0 = zero-mul w in let u : min 0 b - a ≡ 0 = omega arith in rw (e, u, rank) (sym (zero-mul (y - x)))
  rows_are (suc r) l =
      let e : suc r * w ≡ r * w + w = suc-times r w in
      let u : min w y - x ≡ y - x = omega arith in
      let v : min (suc r) b - a ≡ (min r b - a) + bit (within a b r) = sym (rank-within a b (suc r)) ∙ ap (λ (z : ℕ). z + bit (within a b r)) (rank-within a b r) in
      ap (rank f) e ∙ rank-add f (r * w) w
      ∙ ap₂ (λ (p q : ℕ). p + q) (rows_are r (omega arith)) (row_is r w (omega arith) (omega arith) ∙ ap (λ (z : ℕ). bit (within a b r) * z) u)
      ∙ sym (ap (λ (z : ℕ). z * (y - x)) v ∙ add-mul (min r b - a) (bit (within a b r)) (y - x))
    where
      suc-times : (r w : ℕ) → suc r * w ≡ r * w + w
      suc-times r w = let e : suc r ≡ r + 1 = omega arith in rw (e, add-mul, one-mul) refl

  -- before an entry of the rectangle
  pub entry-is : (r c : ℕ) → r < n → c < w → a ≤ r → r < b → x ≤ c → c < y → rank f (r * w + c) ≡ (r - a) * (y - x) + (c - x)
  entry-is r c l k ra rb cx cy =
      let u : min r b - a ≡ r - a = omega arith in
      let v : min c y - x ≡ c - x = omega arith in
      rank-add f (r * w) c
      ∙ ap₂ (λ (p q : ℕ). p + q) (rows_are r (omega arith) ∙ ap (λ (z : ℕ). z * (y - x)) u)
      (row_is r c l (omega arith) ∙ ap₂ (λ (p q : ℕ). p * q) (bit_in (within a b r) (within_by a b r ra rb)) v ∙ one-mul (c - x))

-- THE LAYER

row-end : (h : ℕ) (st : Step) → row_end h st ≤ h
row-end h st = omega arith

column-end : (d : ℕ) (st : Step) → column_end d st ≤ d + 1
column-end d st = go (beside st)
  where
    go : (b : Bool) → if b (end st.column (d + 1)) (end st.column d) ≤ d + 1
    go true = omega arith
    go false = omega arith

module _ (T : Table) (S : Suited T) (h d : ℕ) where
  edge_at : (k r c : ℕ) → k < T.kinds → r < h → c < d + 1 → edge_in h d (k * h * (d + 1) + (r * (d + 1) + c)) ≡ record { kind = k; row = r; column = c }
  edge_at k r c j l m =
      let w = d + 1 in
      let e : k * h * w + (r * w + c) ≡ (k * h + r) * w + c = rw add-mul (omega arith) in
      ap (edge_in h d) e
      ∙ ap {B = Edge} (λ (n : ℕ). record { kind = n / h; row = n % h; column = ((k * h + r) * w + c) % w }) (quotient w (k * h + r) c m)
      ∙ ap {B = Edge} (λ (n : ℕ). record { kind = n; row = (k * h + r) % h; column = ((k * h + r) * w + c) % w }) (quotient h k r l)
      ∙ ap {B = Edge} (λ (n : ℕ). record { kind = k; row = n; column = ((k * h + r) * w + c) % w }) (rest h k r l)
      ∙ ap {B = Edge} (λ (n : ℕ). record { kind = k; row = r; column = n }) (rest w (k * h + r) c m)

  -- the candidates of a kind
  module _ (k : ℕ) (j : k < T.kinds) where
    abbrev plane : ℕ → Bool
    plane x = has_at T h d (k * h * (d + 1) + x)

    plane-is : (r c : ℕ) → r < h → c < d + 1 → plane (r * (d + 1) + c) ≡ boxed h d (named T k) r c
    plane-is r c l m = ap (has T h d) (edge_at k r c j l m) ∙ spans-box h d (named T k) (namer-moves T S k j) r c

    plane-all : rank plane (h * (d + 1)) ≡ area h d (named T k)
    plane-all =
        let st = named T k in
        let u : min h (row_end h st) - row_first st ≡ rows h st = let l = row-end h st in omega arith in
        let x : h ≤ h = omega arith in
        rows_are plane (row_first st) (row_end h st) (column_first st) (column_end d st) (d + 1) h (column-end d st) plane-is h x
        ∙ ap (λ (z : ℕ). z * columns d st) u

  pub kinds-are : (k : ℕ) → k ≤ T.kinds → rank (has_at T h d) (k * h * (d + 1)) ≡ areas T h d k
  unfolding rank areas
  kinds-are zero l = let e : 0 * h * (d + 1) ≡ 0 = rw (zero-mul, zero-mul) refl in rw (e, rank) refl
  kinds-are (suc k) l =
      let e : suc k * h * (d + 1) ≡ k * h * (d + 1) + h * (d + 1) = suc-times in
      ap (rank (has_at T h d)) e ∙ rank-add (has_at T h d) (k * h * (d + 1)) (h * (d + 1)) ∙ ap₂ (λ (p q : ℕ). p + q) (kinds-are k (omega arith)) (plane-all k l)
    where
      suc-times : suc k * h * (d + 1) ≡ k * h * (d + 1) + h * (d + 1)
      suc-times = let e : suc k ≡ k + 1 = omega arith in rw (e, add-mul, one-mul, add-mul) refl

  pub count-closed : layer_edges T h d ≡ areas T h d T.kinds
  unfolding layer_edges
  count-closed = kinds-are T.kinds (omega arith)

  -- behind the kinds before it, the rows before it of its rectangle, and the columns before it of its row
  pub number-closed : (e : Edge) → Has T h d e
      → edge_number T h d e ≡ areas T h d e.kind + (e.row - row_first (named T e.kind)) * columns d (named T e.kind) + (e.column - column_first (named T e.kind))
  unfolding edge_number
  number-closed e H =
      let k = e.kind in
      let r = e.row in
      let c = e.column in
      let st = named T k in
      let j = H.kind in
      let t = halves (within (row_first st) (row_end h st) r) (within (column_first st) (column_end d st) c) (sym (spans-box h d st (namer-moves T S k j) r c) ∙ H.there) in
      let u = within-is (row_first st) (row_end h st) r t.0 in
      let v = within-is (column_first st) (column_end d st) c t.1 in
      let l : r < h = omega (arith, u.1, row-end h st) in
      let m : c < d + 1 = omega (arith, v.1, column-end d st) in
      let x : count_of h d e ≡ k * h * (d + 1) + (r * (d + 1) + c) = rw add-mul (omega arith) in
      ap (rank (has_at T h d)) x ∙ rank-add (has_at T h d) (k * h * (d + 1)) (r * (d + 1) + c)
      ∙ ap₂ (λ (p q : ℕ). p + q) (kinds-are k (omega arith))
      (entry-is (plane k j) (row_first st) (row_end h st) (column_first st) (column_end d st) (d + 1) h (column-end d st) (plane-is k j) r c l m u.0 u.1 v.0 v.1)
      ∙ sym (add_assoc (areas T h d k) ((r - row_first st) * columns d st) (c - column_first st))
