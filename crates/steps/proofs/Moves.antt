-- TABLES FROM MOVES: a table of steps is a list of moves in scan order, and no more. Which end names an edge, the kinds of edges and the
-- steps back follow from the list. Assumes nothing.
use Rattle.std.specs.Prelude.{ℕ, ◌≤◌, ◌<◌, ◌≡◌, refl, true, false, not, ltb, eqb}
use Rattle.std.proofs.Common.{arith, sym, ◌∙◌, ap, ⊎_elim, eqb-true, eq-eqb, ltb-true, lt-ltb, le-ltb}
use Rattle.std.proofs.lemmas.Bool.{eqb-false}
use Rattle.shape.specs.Choice.{tell, order}
use Rattle.shape.proofs.Ranges.{halves, both}
use Rattle.steps.specs.Steps.{still}
use Rattle.steps.specs.Proper.{still-swap}
use Rattle.steps.specs.declared.Shift.{Shift}
use Rattle.steps.specs.Moves.{Move, names, reverse, same_move, same_shift, unmoved}

-- EQUAL MOVES

same-shift : (a b : Shift) → same_shift a b ≡ true → a ≡ b
same-shift a b e =
    let t = halves _ _ e in
    ap {B = Shift} (λ (n : ℕ). record { less = n; more = a.more }) (eqb-true _ _ t.0)
    ∙ ap {B = Shift} (λ (n : ℕ). record { less = b.less; more = n }) (eqb-true _ _ t.1)

pub same_move_lem : (a b : Move) → same_move a b ≡ true → a ≡ b
same_move_lem a b e =
    let t = halves _ _ e in
    let u = halves _ _ t.0 in
    ap {B = Move} (λ (s : Shift). record { row = s; column = a.column; sheet = a.sheet }) (same-shift _ _ u.0)
    ∙ ap {B = Move} (λ (s : Shift). record { row = b.row; column = s; sheet = a.sheet }) (same-shift _ _ u.1)
    ∙ ap {B = Move} (λ (s : Shift). record { row = b.row; column = b.column; sheet = s }) (same-shift _ _ t.1)

self-shift : (a : Shift) → same_shift a a ≡ true
self-shift a = both _ _ (eq-eqb a.less a.less refl) (eq-eqb a.more a.more refl)

pub self-move : (a : Move) → same_move a a ≡ true
self-move a = both _ _ (both _ _ (self-shift a.row) (self-shift a.column)) (self-shift a.sheet)

-- ONE OF TWO OPPOSITES NAMES THE EDGE

-- of two numbers that differ one is less
turned : (a b : ℕ) → eqb a b ≡ false → ltb b a ≡ not (ltb a b)
turned a b e =
    let n = eqb-false a b e in
    ⊎_elim (λ l. le-ltb b a (omega arith) ∙ sym (ap not (lt-ltb a b l))) (λ l. lt-ltb b a (less n l) ∙ sym (ap not (le-ltb a b l))) (order a b)
  where
    less : (a ≡ b → ⊥) → b ≤ a → b < a
    less n l = ⊎_elim (λ x. x) (λ x. absurd (n (omega arith))) (order b a)

pub names-reverse : (m : Move) → unmoved m ≡ false → names (reverse m) ≡ not (names m)
unfolding names
names-reverse m e = ⊎_elim flat steep (tell (still m.sheet))
  where
    steep : still m.sheet ≡ false → names (reverse m) ≡ not (names m)
    steep a = rw (still-swap m.sheet, a) (turned m.sheet.more m.sheet.less (still-swap m.sheet ∙ a))

    row : still m.sheet ≡ true → still m.row ≡ false → names (reverse m) ≡ not (names m)
    row a b = rw (still-swap m.sheet, a, still-swap m.row, b) (turned m.row.less m.row.more b)

    column : still m.sheet ≡ true → still m.row ≡ true → names (reverse m) ≡ not (names m)
    column a b =
        let c : still m.column ≡ false = rw (a, b) at e in
        rw (still-swap m.sheet, a, still-swap m.row, b) (turned m.column.less m.column.more c)

    flat : still m.sheet ≡ true → names (reverse m) ≡ not (names m)
    flat a = ⊎_elim (column a) (row a) (tell (still m.row))

-- it does not go down
pub names-up : (m : Move) → names m ≡ true → m.sheet.more ≤ m.sheet.less
unfolding names
names-up m e =
    ⊎_elim (λ a. let x = eqb-true m.sheet.less m.sheet.more a in omega arith)
    (λ a. let x : ltb m.sheet.more m.sheet.less ≡ true = rw a at e in omega (arith, ltb-true m.sheet.more m.sheet.less x))
    (tell (still m.sheet))
