-- `number::read_groups` meets its contract: what is left to read, from the group that comes next, gives the whole number.
-- Assumes nothing.
use Rattle.std.proofs.Common.{◌≡◌, refl, sym, ◌∙◌, ap, ℕ, ◌≤◌, ◌<◌, ◌-◌, ◌+◌, ◌*◌, List, length, get_or, arith}
use native.Mathlib.Nat.{mul-le-mul_left}
use Rattle.number.specs.Number.{group_at, last_group, number_at, most}
use Rattle.number.specs.Laws.{group-cut, group-last, group-more, group-none, number_past, number_in, weighs, weighs-less, weighs-next}
use Rattle.number.proofs.read_groups.Invariants.{Reading}
use Rattle.number.proofs.read_groups.Goals as goal

module _ (src : List ℕ) (at k weight sum : ℕ) (r : Reading src at k weight sum) (l : k < 5) (h : at + k < length src) where
  light : weight ≤ 268435456
  light = rw r.2 (weighs-less (most - k) (omega arith))

  module _ (x : ℕ) (e : x ≡ get_or src (at + k) 0) where
    ends : x < 128 → last_group at weight sum x (at + k + 1) ≡ number_at src at
    ends b = rw e (sym (group-last src at (most - k) weight sum (at + k) (omega arith) h (rw e at b)) ∙ r.0)

    turns : x < 256 → 128 ≤ x → Reading src at (k + 1) (weight * 128) (sum + weight * (x - 128))
    turns b m =
        let s : most - k - 1 ≡ most - (k + 1) = omega arith in
        let n : at + k + 1 ≡ at + (k + 1) = omega arith in (
          ap (λ (j : ℕ). group_at src at j (weight * 128) (sum + weight * (x - 128)) (at + (k + 1))) (sym s)
              ∙ ap (λ (j : ℕ). group_at src at (most - k - 1) (weight * 128) (sum + weight * (x - 128)) j) (sym n)
              ∙ rw e (sym (group-more src at (most - k) weight sum (at + k) (omega arith) h (rw e at m)) ∙ r.0),
          omega (arith, h),
          ap (λ (n : ℕ). n * 128) r.2 ∙ weighs-next (most - k) (omega arith) (omega arith) ∙ ap weighs s,
          omega (arith, r.3, mul-le-mul_left {m = x - 128} {n = 127} weight (omega arith)),
        )

pub returns-then-src-at : goal.returns-then-src-at
returns-then-src-at c = sym (number_past c.args.src.now c.args.at c.if-src-at.true)

pub loop-k-init : goal.loop-k-init
loop-k-init c =
    let a = c.args in
    let n : a.at + 0 ≡ a.at = omega arith in
    (rw n (sym (number_in a.src.now a.at c.if-src-at.false)), omega (arith, c.if-src-at.false), refl, omega arith)

pub returns-then-src-i : goal.returns-then-src-i
returns-then-src-i c =
    let l = c.loop-k in let a = c.args in
    sym (sym l.invariant.0 ∙ group-cut a.src.now a.at (most - l.k) l.weight l.sum (a.at + l.k) (omega (arith, c.loop-k-test.true)) c.if-src-i.true)

pub last_group-requires : goal.last_group-requires
last_group-requires c =
    let l = c.loop-k in let a = c.args in
    (light a.src.now a.at l.k l.weight l.sum l.invariant c.loop-k-test.true c.if-src-i.false, l.invariant.3, c.if-x-lt128.true)

pub returns-then-x-lt128 : goal.returns-then-x-lt128
returns-then-x-lt128 c =
    let l = c.loop-k in let a = c.args in
    c.last_group.ensures ∙ ends a.src.now a.at l.k l.weight l.sum l.invariant c.loop-k-test.true c.if-src-i.false _ refl c.if-x-lt128.true

pub loop-k-preserved : goal.loop-k-preserved
loop-k-preserved c =
    let l = c.loop-k in let a = c.args in
    turns a.src.now a.at l.k l.weight l.sum l.invariant c.loop-k-test.true c.if-src-i.false _ refl (omega (arith, c.type_inv.src (a.at + l.k))) c.if-x-lt128.false

pub returns : goal.returns
returns c =
    let l = c.loop-k in
    let a = c.args in
    let none : most - l.k ≡ 0 = omega (arith, c.loop-k-test.false) in
    sym (sym l.invariant.0 ∙ ap (λ (k : ℕ). group_at a.src.now a.at k l.weight l.sum (a.at + l.k)) none ∙ group-none a.src.now a.at l.weight l.sum (a.at + l.k))
