-- An edge along a step, taken apart: what the test says of its two ends. Assumes nothing.
use Rattle.std.specs.Prelude.{ℕ, ◌+◌, ◌<◌, ◌≡◌, refl, Bool, true, false, ◌||◌, not}
use Rattle.std.proofs.Common.{ap, arith, ltb-true, leb-true, lt-ltb, le-leb}
use Rattle.std.proofs.lemmas.Bool.{not-true}
use Rattle.shape.specs.Choice.{if-true, if-false}
use Rattle.shape.specs.Sizes.{boundary}
use Rattle.shape.specs.Counting.{Inside}
use Rattle.shape.proofs.Ranges.{halves, both}
use Rattle.steps.specs.Steps.{Table, step, goes, fits, stays, beside, across, inside_of, both_detectors, joined, near, At, Nowhere}
use Rattle.shape.specs.declared.Place.{Place}
use Rattle.steps.specs.declared.Shift.{Shift}
use Rattle.steps.specs.declared.Step.{Step}
use Rattle.steps.specs.Joins.{Clear, Joins, column, two_east}

pub inside : (h d k : ℕ) (q : Place) → inside_of h d k q ≡ true → Inside h d k q
inside h d k q e =
    let a = halves _ _ e in
    let b = halves _ _ a.0 in
    record { depth = ltb-true _ _ b.0; row = ltb-true _ _ b.1; column = leb-true _ _ a.1 }

pub inside_of_lem : (h d k : ℕ) (q : Place) → Inside h d k q → inside_of h d k q ≡ true
inside_of_lem h d k q i = both _ _ (both _ _ (lt-ltb _ _ i.depth) (lt-ltb _ _ i.row)) (le-leb _ _ i.column)

pub clear : (s : Shift) (a n : ℕ) → fits s a n ≡ true → Clear s a × (goes s a < n)
clear s a n e = let p = halves _ _ e in (leb-true _ _ p.0, ltb-true _ _ p.1)

pub clear-fits : (s : Shift) (a n : ℕ) → Clear s a → goes s a < n → fits s a n ≡ true
clear-fits s a n p l = both _ _ (le-leb _ _ p) (lt-ltb _ _ l)

pub joins : (h d k : ℕ) (st : Step) (q : Place) → joined h d k st q ≡ true → Joins h d k st q
unfolding joined across
joins h d k st q e =
    let a = halves _ _ e in
    let b = halves _ _ a.0 in
    let f = halves _ _ b.0 in
    let g = halves _ _ f.0 in
    let j = halves _ _ g.0 in
    let r = clear st.row q.row h j.1 in
    let c = clear st.column q.column (d + 1) g.1 in
    let s = clear st.sheet q.depth k f.1 in
    record {
      from = inside h d k q j.0;
      to = record { depth = s.1; row = r.1; column = omega (arith, c.1) };
      row = r.0;
      column = c.0;
      sheet = s.0;
      moves = not-true (stays st) b.1;
      kind = a.1;
    }

pub joined_by : (h d k : ℕ) (st : Step) (q : Place) → Joins h d k st q → joined h d k st q ≡ true
unfolding joined across
joined_by h d k st q j =
    let c : goes st.column q.column < d + 1 = omega (arith, j.to.column) in
    both _ _
    (both _ _
    (both _ _
    (both _ _ (both _ _ (inside_of_lem h d k q j.from) (clear-fits st.row q.row h j.row j.to.row))
    (clear-fits st.column q.column (d + 1) j.column c))
    (clear-fits st.sheet q.depth k j.sheet j.to.depth))
    (ap not j.moves))
    j.kind

-- A boundary node has no other edge than the one to its row neighbour
pub boundary-edge : (h d k : ℕ) (st : Step) (q : Place) → Joins h d k st q → boundary d q.column ≡ true → beside st ≡ true
boundary-edge h d k st q j b = go (beside st) j.kind
  where
    go : (x : Bool) → (x || both_detectors d st q) ≡ true → x ≡ true
    go true e = refl
    go false e = rw b at e

pub two-columns : (joined 1 5 1 two_east (column 0) ≡ false) × (joined 1 5 1 two_east (column 1) ≡ true) × (joined 1 5 1 two_east (column 3) ≡ false)
unfolding joined
two-columns = (refl, refl, refl)

-- what a neighbour says of the test
module _ (T : Table) (h d k p : ℕ) (q : Place) where
  pub near-at : joined h d k (step T p) q ≡ true → near T h d k p q ≡ At (across (step T p) q)
  unfolding near
  near-at e = if-true (joined h d k (step T p) q) (At (across (step T p) q)) Nowhere e

  pub near_none : joined h d k (step T p) q ≡ false → near T h d k p q ≡ Nowhere
  unfolding near
  near_none e = if-false (joined h d k (step T p) q) (At (across (step T p) q)) Nowhere e

  pub near-to : (q' : Place) → near T h d k p q ≡ At q' → Joins h d k (step T p) q × (across (step T p) q ≡ q')
  near-to q' e = go (joined h d k (step T p) q) refl
    where
      go : (b : Bool) → joined h d k (step T p) q ≡ b → Joins h d k (step T p) q × (across (step T p) q ≡ q')
      go true j = (joins h d k (step T p) q j, let f = near-at j in cc)
      go false j = let f = near_none j in let z : ◌≡◌ {A = ℕ} 0 1 = cc in absurd (omega arith)
