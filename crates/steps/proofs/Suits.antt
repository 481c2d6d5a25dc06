-- EVERY TABLE OF MOVES SUITS: distinct non-zero steps, at most one sheet up or down, each with its opposite, make a proper table whose kinds are
-- each named by one step that does not go down. Assumes nothing.
use Prim.Native.Nat.{ℕ, zero, suc, ◌+◌, ◌-◌, ◌≤◌, ◌<◌}
use Rattle.std.proofs.Common.{zero-add, le_of_suc-le-suc, not-suc-le-zero, arith, sym, ◌∙◌, ⊎_elim, eq-eqb}
use Rattle.std.specs.Prelude.{◌≡◌, refl, Bool, true, false, ◌&&◌, not, List, [], ◌∷◌, eqb, get_or}
use Rattle.std.proofs.Math.Path.{ap, subst}
use Rattle.std.proofs.Math.ListN.{length}
use Rattle.shape.specs.Choice.{if-true, if-false, tell, order}
use Rattle.shape.proofs.Ranges.{both}
use Rattle.steps.specs.Steps.{Table, step, here, stays, naming, namer}
use Rattle.steps.specs.Proper.{Reversed, Points, Opposed, Proper}
use Rattle.steps.specs.declared.Step.{Step}
use Rattle.steps.specs.Ranks.{rank, pick, rank_lt, pick-rank, Picked, picked}
use Rattle.steps.specs.ByPlace.{length_from, get_or-from}
use Rattle.steps.specs.Suited.{Suited, naming-at}
use Rattle.steps.specs.Moves.{Move, move_at, reverse, same_move, names, opposite, owned, kind_at, step_at, table_of, Steps}
use Rattle.steps.proofs.Moves.{same_move_lem, self-move, names-reverse, names-up}

step-at : (ms : List Move) (x : ℕ) → x < length ms → step (table_of ms) (suc x) ≡ step_at ms x
unfolding table_of
step-at ms x l = get_or-from (step_at ms) 0 (length ms) x here l ∙ ap (step_at ms) (zero-add x)

table-length : (ms : List Move) → length (table_of ms).steps ≡ length ms
unfolding table_of
table-length ms = length_from (step_at ms) 0 (length ms)

-- a test that passes at one place only
only : (f : ℕ → Bool) (n x y : ℕ) → rank f n ≡ 1 → x < n → y < n → f x ≡ true → f y ≡ true → x ≡ y
only f n x y e l m a b =
    ⊎_elim (λ z. absurd (omega (arith, rank_lt f x y a z, rank_lt f y n b m)))
    (λ z. ⊎_elim (λ z'. absurd (omega (arith, rank_lt f y x b z', rank_lt f x n a l))) (λ z'. omega arith) (order y x))
    (order x y)

module _ (ms : List Move) (S : Steps ms) where
  abbrev n : ℕ
  n = length ms

  abbrev at : ℕ → Move
  at x = move_at ms x

  distinct : (x y : ℕ) → x < n → y < n → at x ≡ at y → x ≡ y
  distinct x y l m e =
      only (λ z. same_move (at z) (at x)) n x y (S.distinct x l) l m (self-move (at x))
      (subst (λ (a : Move). same_move a (at x) ≡ true) e (self-move (at x)))

  module _ (x : ℕ) (l : x < n) where
    found : Picked (λ y. same_move (at y) (reverse (at x))) n 0
    found = picked (λ y. same_move (at y) (reverse (at x))) n 0 (omega (arith, S.opposites x l))

    opposite-lt : opposite ms x < n
    unfolding opposite
    opposite-lt = found.below

    opposite-is : at (opposite ms x) ≡ reverse (at x)
    unfolding opposite
    opposite-is = same_move_lem _ _ found.passes

    opposite-names : owned ms (opposite ms x) ≡ not (owned ms x)
    opposite-names = ap names opposite-is ∙ names-reverse (at x) (S.moves x l)

    kind-own : owned ms x ≡ true → kind_at ms x ≡ rank (owned ms) x
    unfolding kind_at
    kind-own o = ap (rank (owned ms)) (if-true (owned ms x) x (opposite ms x) o)

    kind-other : owned ms x ≡ false → kind_at ms x ≡ rank (owned ms) (opposite ms x)
    unfolding kind_at
    kind-other o = ap (rank (owned ms)) (if-false (owned ms x) x (opposite ms x) o)

  opposite-again : (x : ℕ) → x < n → opposite ms (opposite ms x) ≡ x
  opposite-again x l =
      let y = opposite ms x in
      let m = opposite-lt x l in
      distinct (opposite ms y) x (opposite-lt y m) l (opposite-is y m ∙ ap reverse (opposite-is x l))

  kind-opposite : (x : ℕ) → x < n → kind_at ms (opposite ms x) ≡ kind_at ms x
  kind-opposite x l =
      let y = opposite ms x in
      let m = opposite-lt x l in
      ⊎_elim (λ o. kind-other y m (opposite-names x l ∙ ap not o) ∙ ap (rank (owned ms)) (opposite-again x l) ∙ sym (kind-own x l o))
      (λ o. kind-own y m (opposite-names x l ∙ ap not o) ∙ sym (kind-other x l o))
      (tell (owned ms x))

  kind-lt : (x : ℕ) → x < n → kind_at ms x < rank (owned ms) n
  kind-lt x l =
      ⊎_elim (λ o. rw (kind-own x l o) (rank_lt (owned ms) x n o l))
      (λ o. rw (kind-other x l o) (rank_lt (owned ms) (opposite ms x) n (opposite-names x l ∙ ap not o) (opposite-lt x l)))
      (tell (owned ms x))

  rank-injective : (x y : ℕ) → x < n → y < n → owned ms x ≡ true → owned ms y ≡ true → rank (owned ms) x ≡ rank (owned ms) y → x ≡ y
  rank-injective x y l m o o' e = sym (pick-rank (owned ms) n x o l) ∙ ap (pick (owned ms) n) e ∙ pick-rank (owned ms) n y o' m

  -- an edge's kind and the end that names it tell the direction
  kind-names : (x y : ℕ) → x < n → y < n → kind_at ms x ≡ kind_at ms y → owned ms x ≡ owned ms y → x ≡ y
  kind-names x y l m e o = ⊎_elim own other (tell (owned ms x))
    where
      own : owned ms x ≡ true → x ≡ y
      own a = let b : owned ms y ≡ true = sym o ∙ a in rank-injective x y l m a b (sym (kind-own x l a) ∙ e ∙ kind-own y m b)

      other : owned ms x ≡ false → x ≡ y
      other a =
          let b : owned ms y ≡ false = sym o ∙ a in
          let z : opposite ms x ≡ opposite ms y
          = rank-injective (opposite ms x) (opposite ms y) (opposite-lt x l) (opposite-lt y m) (opposite-names x l ∙ ap not a) (opposite-names y m ∙ ap not b)
          (sym (kind-other x l a) ∙ e ∙ kind-other y m b) in
          sym (opposite-again x l) ∙ ap (opposite ms) z ∙ opposite-again y m

  -- THE TABLE

  abbrev T : Table
  T = table_of ms

  -- a pointer's place
  placed : (p : ℕ) → Points T p → p - 1 < n
  placed p i = let a = i.0 in let b = i.1 in let e = table-length ms in omega arith

  pointed : (x : ℕ) → x < n → Points T (suc x)
  pointed x l = let e = table-length ms in (omega arith, omega arith)

  back_is : (x : ℕ) → x < n → (step T (suc x)).back ≡ suc (opposite ms x)
  unfolding step_at
  back_is x l = ap (λ (s : Step). s.back) (step-at ms x l) ∙ (omega arith)

  module _ (x : ℕ) (l : x < n) where
    abbrev y : ℕ
    y = opposite ms x

    at_back : step T (step T (suc x)).back ≡ step_at ms y
    at_back = ap (step T) (back_is x l) ∙ step-at ms y (opposite-lt x l)

    turns : Reversed (step_at ms x) (step_at ms y)
    unfolding step_at
    turns =
        record {
          row = ap (λ (m : Move). m.row) (opposite-is x l);
          column = ap (λ (m : Move). m.column) (opposite-is x l);
          sheet = ap (λ (m : Move). m.sheet) (opposite-is x l);
          kind = kind-opposite x l;
          own = opposite-names x l;
        }

    kind_fits : (step_at ms x).kind < T.kinds
    unfolding step_at table_of
    kind_fits = kind-lt x l

    opposed-at : Opposed T (suc x)
    unfolding step_at
    opposed-at =
        let e = step-at ms x l in
        record {
          back = subst (Points T) (sym (back_is x l)) (pointed y (opposite-lt x l));
          again = ap (λ (s : Step). s.back) at_back ∙ ap (λ (z : ℕ). z + 1) (opposite-again x l) ∙ (omega arith);
          reversed = subst (λ (s : Step). Reversed s (step T (step T (suc x)).back)) (sym e) (subst (λ (s : Step). Reversed (step_at ms x) s) (sym at_back) turns);
          kind = subst (λ (s : Step). s.kind < T.kinds) (sym e) kind_fits;
          moves = ap stays e ∙ S.moves x l;
          rise = subst (λ (s : Step). s.sheet.less ≤ s.sheet.more + 1) (sym e) (S.rise x l);
          fall = subst (λ (s : Step). s.sheet.more ≤ s.sheet.less + 1) (sym e) (S.fall x l);
        }

  pred-suc : (p : ℕ) → 1 ≤ p → suc (p - 1) ≡ p
  pred-suc p l = omega arith

  kind-of : (p : ℕ) → Points T p → kind_at ms (p - 1) ≡ (step T p).kind
  unfolding step_at
  kind-of p i = ap (λ (s : Step). s.kind) (sym (step-at ms (p - 1) (placed p i)) ∙ ap (step T) (pred-suc p i.0))

  own_of : (p : ℕ) → Points T p → owned ms (p - 1) ≡ (step T p).own
  unfolding step_at
  own_of p i = ap (λ (s : Step). s.own) (sym (step-at ms (p - 1) (placed p i)) ∙ ap (step T) (pred-suc p i.0))

  proper : Proper T
  proper =
      record {
        opposed = λ p i. subst (Opposed T) (pred-suc p i.0) (opposed-at (p - 1) (placed p i));
        named = λ p p' i j k o.
            sym (pred-suc p i.0) ∙ ap suc (kind-names (p - 1) (p' - 1) (placed p i) (placed p' j)
            (kind-of p i ∙ k ∙ sym (kind-of p' j)) (own_of p i ∙ o ∙ sym (own_of p' j))) ∙ pred-suc p' j.0;
      }

-- A KIND HAS A STEP THAT NAMES IT

-- from direction p on a step of the kind that names its edge is found, if there is one
naming-finds : (sts : List Step) (kind p x : ℕ) → x < length sts → (get_or sts x here).own ≡ true → (get_or sts x here).kind ≡ kind → p ≤ naming sts kind p
unfolding naming
naming-finds [] kind p x l o k = absurd (not-suc-le-zero l)
naming-finds (st ∷ sts) kind p zero l o k = let e = both _ _ o (eq-eqb st.kind kind k) in rw (e, naming) (omega arith)
naming-finds (st ∷ sts) kind p (suc x) l o k = go (st.own && eqb st.kind kind) refl (naming-finds sts kind (suc p) x (le_of_suc-le-suc l) o k)
  where
    go : (b : Bool) → (st.own && eqb st.kind kind) ≡ b → suc p ≤ naming sts kind (suc p) → p ≤ naming (st ∷ sts) kind p
    go true e m = rw (e, naming) (omega arith)
    go false e m = rw (e, naming) (omega arith)

module _ (ms : List Move) (S : Steps ms) where
  named : (kind : ℕ) → kind < (table_of ms).kinds → 1 ≤ namer (table_of ms) kind
  unfolding table_of step_at
  named kind l =
      let p = picked (owned ms) (length ms) kind l in
      let x = pick (owned ms) (length ms) kind in
      let e = step-at ms x p.below in
      naming-finds (table_of ms).steps kind 1 x (rw (table-length ms) p.below) (ap (λ (s : Step). s.own) e ∙ p.passes)
      (ap (λ (s : Step). s.kind) e ∙ kind-own ms S x p.below p.passes ∙ p.rank_is)

  upwards : (kind : ℕ) → kind < (table_of ms).kinds → (step (table_of ms) (namer (table_of ms) kind)).sheet.more ≤ (step (table_of ms) (namer (table_of ms) kind)).sheet.less
  unfolding step_at
  upwards kind l =
      let T = table_of ms in
      let f = naming-at T.steps kind 1 (named kind l) in
      let m : f.place < length ms = omega (arith, f.within, table-length ms) in
      let e = step-at ms f.place m in
      let n : suc f.place ≡ namer T kind = omega (arith, f.is) in
      subst (λ (s : Step). s.sheet.more ≤ s.sheet.less) (sym e ∙ ap (step T) n)
      (names-up (move_at ms f.place) (sym (ap (λ (s : Step). s.own) e) ∙ f.own))

pub suited : (ms : List Move) → Steps ms → Suited (table_of ms)
suited ms S = record { proper = proper ms S; named = named ms S; upwards = upwards ms S }
