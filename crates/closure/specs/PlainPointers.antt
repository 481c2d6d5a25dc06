-- POINTERS IN THE WORDS OF DOCUMENT 01 AND S-4, for any table. Where the round that has just left was supplied, and so all rounds of the window, pointers
-- go along edges of the window, except that a bottom detector's may be any direction with a D in stage to grow, unless that edge is left out. Where it is
-- absent there is no exception. Assumes nothing.
use Rattle.std.specs.Prelude.{ℕ, ◌+◌, ◌-◌, ◌≤◌, ◌<◌, ◌≡◌, Bool, true, false, ◌&&◌, ◌||◌, not}
use native.Mathlib.Omega.{arith}
use Rattle.std.proofs.Math.Path.{refl}
use Rattle.std.proofs.Common.{sym, ◌∙◌, ap, subst}
use borrow.Author.Tests.{ltb-true, eqb-true, not-true}
use Rattle.std.proofs.Math.Dec.{eqb}
use Rattle.shape.specs.Choice.{whether}
use Rattle.shape.specs.Counting.{Inside, wider}
use Rattle.shape.proofs.Ranges.{halves, both}
use Rattle.shape.specs.Sizes.{sheets_of, boundary}
use Rattle.shape.specs.declared.Place.{Place}
use Rattle.steps.specs.Steps.{Table, base, step, across, still, along_row, one_apart, beside, both_detectors, falls}
use Rattle.steps.specs.Joins.{Joins}
use Rattle.steps.specs.Proper.{points, falls_down}
use Rattle.steps.specs.Suited.{Suited}
use Rattle.steps.specs.Models.{of_model}
use Rattle.steps.proofs.Models.{suited-base, suited-model}
use Rattle.layers.specs.Layers.{spans}
use Rattle.layers.proofs.Layers.{joins-spans, spans-joins}
use Rattle.window.specs.Window.{is_to_grow, reach, supplied, led_to}
use Rattle.window.specs.Formed.{pointer_fits}
use Rattle.window.specs.declared.Stage.{Stage}
use Rattle.window.specs.declared.Stage.TheVariants.{Rest, ToGrow, Merging}
use Rattle.closure.specs.Lists.{either, other, choice}
use Rattle.closure.specs.Edges.{edge, edge-there}
use Rattle.closure.specs.Lower.{joins-in, joins-present}

-- TESTS

same : (a b : Bool) → (a ≡ true → b ≡ true) → (b ≡ true → a ≡ true) → a ≡ b
same true true f g = refl
same true false f g = sym (f refl)
same false true f g = g refl
same false false f g = refl

or-none : (a : Bool) → a ≡ (a || false)
or-none true = refl
or-none false = refl

or-or : (a b c : Bool) → (a || (b || c)) ≡ (a || b || c)
or-or true b c = refl
or-or false b c = refl

-- ANY TABLE

module _ (T : Table) (h d : ℕ) (q : Place) where
  abbrev s : ℕ
  s = sheets_of d

  -- a direction with a D from the bottom sheet, whose edge is not left out
  abbrev pub out : ℕ → Bool
  out p = eqb (q.depth + 1) s && falls T p && spans h d (step T p) q.row q.column

  abbrev pub Plain : Stage → ℕ → Bool
  Plain stage p = eqb p 0 || (reach T h d s p q).there || (is_to_grow stage && out p)

  -- an edge with a D that is not left out, in a stack that has the sheets of both its ends
  deep : (p : ℕ) → falls T p ≡ true → spans h d (step T p) q.row q.column ≡ true → Joins h d (q.depth + (step T p).sheet.more + 1) (step T p) q
  deep p f e =
      let l : (step T p).sheet.less < (step T p).sheet.more = ltb-true _ _ f in
      spans-joins h d (step T p) (q.depth + (step T p).sheet.more + 1) q e (omega arith) (omega arith) (omega arith)

  -- such an edge is between two detectors
  pub out-detectors : (p : ℕ) → out p ≡ true → both_detectors d (step T p) q ≡ true
  out-detectors p e =
      let x = halves _ (spans h d (step T p) q.row q.column) e in
      let f = (halves (eqb (q.depth + 1) s) (falls T p) x.0).1 in
      let l : (step T p).sheet.less < (step T p).sheet.more = ltb-true _ _ f in
      let level : beside (step T p) ≡ true → ⊥
      = λ k.
      let row = (halves (along_row (step T p)) (one_apart (step T p).column) k).0 in
      let z : (step T p).sheet.less ≡ (step T p).sheet.more = eqb-true _ _ (halves (still (step T p).row) (still (step T p).sheet) row).1 in
      omega (arith, l, z) in
      choice (beside (step T p)) (both_detectors d (step T p) q) (deep p f x.1).kind (λ k. absurd (level k)) (λ k. k)

  -- the round that has left is absent: pointers go along edges between the sheets that are there, in stage to grow too
  pub plain-pointer-absent : (next : ℕ) (stage : Stage) (p : ℕ) → next ≤ s + s
      → pointer_fits T h d (supplied d next (led_to d stage)) q p ≡ (eqb p 0 || (reach T h d (supplied d next s) p q).there)
  unfolding pointer_fits
  plain-pointer-absent next Rest p l = refl
  plain-pointer-absent next Merging p l = refl
  plain-pointer-absent next ToGrow p l = let z : supplied d next (s + 1) ≡ supplied d next s = omega arith in rw z refl

  -- with round s at the bottom those are all sheets of the window
  pub plain-pointer-first : (next : ℕ) (stage : Stage) (p : ℕ) → next ≡ s + s
      → pointer_fits T h d (supplied d next (led_to d stage)) q p ≡ (eqb p 0 || (reach T h d s p q).there)
  plain-pointer-first next stage p e =
      let z : supplied d next s ≡ s = omega arith in
      plain-pointer-absent next stage p (omega arith) ∙ ap (λ (k : ℕ). eqb p 0 || (reach T h d k p q).there) z

  module _ (S : Suited T) (i : Inside h d s q) where
    -- an edge to the sheet that has left is one of the window, or leads out of it
    stays-or-out : (p : ℕ) → (reach T h d (s + 1) p q).there ≡ true → ((reach T h d s p q).there || out p) ≡ true
    stays-or-out p e =
        let j = edge T h d (s + 1) p q e in
        whether (eqb (q.depth + 1) s && falls T p)
        (λ t. other (reach T h d s p q).there (out p) (both _ _ t (joins-spans h d (step T p) (s + 1) q j)))
        (λ t.
        let z : supplied d (s + s + 1) s ≡ s = omega arith in
        let k = joins-present T S.proper h d (s + s + 1) (s + 1) q p j (omega arith) i.depth t in
        either _ (out p) (edge-there T h d s p q (subst (λ (n : ℕ). Joins h d n (step T p) q) z k)))

    stays-in : (p : ℕ) → (reach T h d s p q).there ≡ true → (reach T h d (s + 1) p q).there ≡ true
    stays-in p e =
        let j = edge T h d s p q e in
        edge-there T h d (s + 1) p q (joins-in h d s (s + 1) q (step T p) j (let x = j.from.depth in omega arith) (let x = j.to.depth in omega arith))

    leads-out : (p : ℕ) → out p ≡ true → (reach T h d (s + 1) p q).there ≡ true
    unfolding across
    leads-out p e =
        let x = halves _ (spans h d (step T p) q.row q.column) e in
        let y = halves (eqb (q.depth + 1) s) (falls T p) x.0 in
        let bottom = eqb-true (q.depth + 1) s y.0 in
        let j = deep p y.1 x.1 in
        let o = (S.proper.opposed p (points T p j.moves)).fall in
        edge-there T h d (s + 1) p q (joins-in h d (q.depth + (step T p).sheet.more + 1) (s + 1) q (step T p) j (omega arith) (omega arith))

    pub plain-pointer : (next : ℕ) (stage : Stage) (p : ℕ) → s + s < next → pointer_fits T h d (supplied d next (led_to d stage)) q p ≡ Plain stage p
    unfolding pointer_fits
    plain-pointer next Rest p l = let z : supplied d next s ≡ s = omega arith in rw z (or-none (eqb p 0 || (reach T h d s p q).there))
    plain-pointer next Merging p l = let z : supplied d next s ≡ s = omega arith in rw z (or-none (eqb p 0 || (reach T h d s p q).there))
    plain-pointer next ToGrow p l =
        let z : supplied d next (s + 1) ≡ s + 1 = omega arith in
        rw z
        (ap (λ (b : Bool). eqb p 0 || b)
        (same (reach T h d (s + 1) p q).there ((reach T h d s p q).there || out p) (stays-or-out p) (λ e. choice _ _ e (stays-in p) (leads-out p)))
        ∙ or-or (eqb p 0) (reach T h d s p q).there (out p))

-- EACH MODEL

pub plain-pointer-model : (m h d : ℕ) (q : Place) → Inside h d (sheets_of d) q → (next : ℕ) (stage : Stage) (p : ℕ) → sheets_of d + sheets_of d < next
    → pointer_fits (of_model m) h d (supplied d next (led_to d stage)) q p ≡ Plain (of_model m) h d q stage p
plain-pointer-model m h d q i = plain-pointer (of_model m) h d q (suited-model m) i

-- MODEL 0: D is the only direction with a D, and its edge is left out at boundary nodes alone

module _ (h d : ℕ) (q : Place) where
  -- D, from a bottom detector
  abbrev pub out-0 : ℕ → Bool
  out-0 p = eqb (q.depth + 1) (sheets_of d) && not (boundary d q.column) && falls base p

  abbrev pub Plain-0 : Stage → ℕ → Bool
  Plain-0 stage p = eqb p 0 || (reach base h d (sheets_of d) p q).there || (is_to_grow stage && out-0 p)

  module _ (i : Inside h d (sheets_of d) q) where
    down-joins : boundary d q.column ≡ false → Joins h d (sheets_of d + 1) (step base 5) q
    unfolding base across
    down-joins e =
        let c : q.column + 0 - 0 ≡ q.column = omega arith in
        record {
          from = wider h d (sheets_of d) (sheets_of d + 1) q (omega arith) i;
          to = record { depth = let x = i.depth in omega arith; row = let x = i.row in omega arith; column = let x = i.column in omega arith };
          row = omega arith;
          column = omega arith;
          sheet = omega arith;
          moves = refl;
          kind = rw (c, e);
        }

    out-down : (p : ℕ) → out base h d q p ≡ true → out-0 p ≡ true
    out-down p e =
        let x = halves (eqb (q.depth + 1) (sheets_of d)) (falls base p) (halves _ (spans h d (step base p) q.row q.column) e).0 in
        both _ _ (both _ _ x.0 (halves (not (boundary d q.column)) _ (out-detectors base h d q p e)).0) x.1

    down_out : (p : ℕ) → out-0 p ≡ true → out base h d q p ≡ true
    down_out p e =
        let x = halves _ (falls base p) e in
        let y = halves (eqb (q.depth + 1) (sheets_of d)) (not (boundary d q.column)) x.0 in
        let five : p ≡ 5 = eqb-true p 5 (sym (falls_down p) ∙ x.1) in
        let k = joins-spans h d (step base 5) (sheets_of d + 1) q (down-joins (not-true _ y.1)) in
        both _ _ (both _ _ y.0 x.1) (subst (λ (n : ℕ). spans h d (step base n) q.row q.column ≡ true) (sym five) k)

    pub plain-pointer-0 : (next : ℕ) (stage : Stage) (p : ℕ) → sheets_of d + sheets_of d < next
        → pointer_fits base h d (supplied d next (led_to d stage)) q p ≡ Plain-0 stage p
    plain-pointer-0 next stage p l =
        plain-pointer base h d q suited-base i next stage p l
        ∙ ap (λ (b : Bool). eqb p 0 || (reach base h d (sheets_of d) p q).there || (is_to_grow stage && b)) (same (out base h d q p) (out-0 p) (out-down p) (down_out p))
