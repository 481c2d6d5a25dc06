-- Laws of what moves down: what is read of a settled node, and that a shape's thresholds lower numbers as the rule does. Assumes nothing.
use Rattle.std.specs.Prelude.{◌≡◌, ℕ, ◌+◌, ◌-◌, ◌*◌, ◌/◌, ◌%◌, ◌<◌, ◌≤◌, true, false, ◌&&◌, nat_le, nat_lt, refl}
use Rattle.std.proofs.Common.{mul-le-mul, arith, ◌∙◌}
use Rattle.std.proofs.Math.Logic.{⊎_elim}
use borrow.Author.Tests.{lt-ltb, le-ltb, le-leb, lt-leb}
use Rattle.shape.specs.Choice.{order}
use Rattle.shape.specs.Sizes.{max_height, sheets_of, max_sheets, max_detectors}
use Rattle.shape.specs.Ranges.{Ranged}
use Rattle.shape.proofs.Ranges.{sheets-le}
use Rattle.shape.proofs.LawsSizes.{detectors-le}
use Rattle.window.specs.Round.{lowered_number}
use Rattle.flat.specs.Codes.{active_of, defect_of, unrooted_of, pointer_of}
use Rattle.sinking.specs.Sunk.{settled, thresholds_of, Ordered, lowered_by}
use Rattle.sinking.specs.declared.Thresholds.{Thresholds}

-- A SETTLED NODE
module _ (v : ℕ) where
  pub settled-active : active_of (settled v) ≡ active_of v
  settled-active = let e : settled v % 2 ≡ v % 2 = omega arith in rw e

  pub settled-defect : defect_of (settled v) ≡ defect_of v
  settled-defect = let e : settled v / 2 % 2 ≡ v / 2 % 2 = omega arith in rw e

  pub settled-unrooted : unrooted_of (settled v) ≡ false
  settled-unrooted = let e : settled v / 4 % 2 ≡ 0 = omega arith in rw e

  pub settled-pointer : pointer_of (settled v) ≡ pointer_of v
  settled-pointer = omega arith

-- A NUMBER, by cases
module _ (t : Thresholds) (o : Ordered t) (m : ℕ) where
  pub lowered-sides : m < t.boundary → lowered_by t m ≡ m + t.sides
  lowered-sides a =
      let x = o.apart in
      let p = lt-ltb m t.boundary a in
      let q = lt-leb t.detectors m (omega arith) in
      rw (p, q) (omega arith)

  pub lowered-ghost : t.boundary ≤ m → m < t.detectors → lowered_by t m ≡ m
  lowered-ghost a b = let p = le-ltb m t.boundary a in let q = lt-leb t.detectors m b in rw (p, q) (omega arith)

  pub lowered-inner : t.detectors ≤ m → m < t.end → lowered_by t m ≡ m + t.inner
  lowered-inner a b =
      let x = o.apart in
      let p = le-ltb m t.boundary (omega arith) in
      let q = le-leb t.detectors m a in
      let r = lt-ltb m t.end b in
      rw (p, q, r) (omega arith)

  pub lowered-past : t.detectors ≤ m → t.end ≤ m → lowered_by t m ≡ m
  lowered-past a b =
      let x = o.apart in
      let p = le-ltb m t.boundary (omega arith) in
      let q = le-leb t.detectors m a in
      let r = le-ltb m t.end b in
      rw (p, q, r) (omega arith)

  -- nothing wraps
  pub lowered-most : m ≤ 65535 → lowered_by t m ≤ 65535
  lowered-most l =
      let x = o.sides in
      let y = o.inner in
      ⊎_elim
      (λ a. omega (arith, lowered-sides a))
      (λ a. ⊎_elim (λ b. omega (arith, lowered-ghost a b)) (λ b. ⊎_elim (λ e. omega (arith, lowered-inner b e)) (λ e. omega (arith, lowered-past b e)) (order m t.end)) (order m t.detectors))
      (order m t.boundary)

  -- the range of the detectors' numbers by one test: x is m less their first, wrapped
  module _ (x : ℕ) (low : x < 65536) (e : (x + t.detectors) % 65536 ≡ m) where
    pub range-in : x < t.end - t.detectors → (nat_le t.detectors m && nat_lt m t.end) ≡ true
    range-in l =
        let i = o.inner in
        let p = le-leb t.detectors m (omega arith) in
        let q = lt-ltb m t.end (omega arith) in
        rw (p, q)

    pub range-out : m < 65536 → t.end - t.detectors ≤ x → (nat_le t.detectors m && nat_lt m t.end) ≡ false
    range-out most l =
        let i = o.inner in
        ⊎_elim
        (λ a. let p = lt-leb t.detectors m a in rw p)
        (λ a. let p = le-leb t.detectors m a in let q = le-ltb m t.end (omega arith) in rw (p, q))
        (order m t.detectors)

-- A SHAPE'S, of s sheets: nothing wraps on the way
module _ (h d s : ℕ) (r : Ranged h d) (e : s ≡ sheets_of d) where
  few : s ≤ max_sheets
  few = omega (arith, sheets-le d r.d-max)

  pub sides-le : 2 * h * s ≤ 2 * max_height * max_sheets
  sides-le = let a : 2 * h ≤ 2 * max_height = omega (arith, r.h-max) in mul-le-mul a few

  pub boundary-le : 2 * h * (s + 1) ≤ 2 * max_height * (max_sheets + 1)
  boundary-le =
      let a : 2 * h ≤ 2 * max_height = omega (arith, r.h-max) in
      let b : s + 1 ≤ max_sheets + 1 = omega (arith, few) in
      mul-le-mul a b

  pub inner-le : h * (d - 1) * s ≤ max_detectors * max_sheets
  inner-le = mul-le-mul (detectors-le h d r) few

module _ (h d : ℕ) (r : Ranged h d) where
  pub thresholds-ordered : Ordered (thresholds_of h d)
  thresholds-ordered =
      record {
        apart = let s = sheets_of d in let a : s ≤ s + 1 = omega arith in let b : 2 * h ≤ 2 * h = omega arith in mul-le-mul b a;
        some = omega arith;
        sides = omega (arith, sides-le h d (sheets_of d) r refl, r.h-max);
        inner = omega (arith, boundary-le h d (sheets_of d) r refl, inner-le h d (sheets_of d) r refl, detectors-le h d r);
      }

  -- the rule
  pub lowered-number : (m : ℕ) → lowered_by (thresholds_of h d) m ≡ lowered_number h d m
  unfolding lowered_number
  lowered-number m =
      let t = thresholds_of h d in
      let o = thresholds-ordered in
      ⊎_elim
      (λ a. lowered-sides t o m a ∙ (let p = lt-ltb m t.boundary a in rw p))
      (λ a.
      let p = le-ltb m t.boundary a in
      ⊎_elim
      (λ b. lowered-ghost t o m a b ∙ (let q = lt-ltb m t.detectors b in rw (p, q)))
      (λ b.
      let q = le-ltb m t.detectors b in
      ⊎_elim (λ e. lowered-inner t o m b e ∙ (let x = lt-ltb m t.end e in rw (p, q, x))) (λ e. lowered-past t o m b e ∙ (let x = le-ltb m t.end e in rw (p, q, x))) (order m t.end))
      (order m t.detectors))
      (order m t.boundary)
