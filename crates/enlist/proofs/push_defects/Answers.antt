-- `enlist::push_defects` meets its contract. Assumes nothing.
use Rattle.std.specs.Prelude.{ℕ, ◌+◌, ◌-◌, ◌≡◌, min, get_or}
use Rattle.std.proofs.Common.{arith, sym, ◌∙◌}
use borrow.Author.Tests.{not-true}
use Rattle.flat.specs.Codes.{defect_of}
use Rattle.enlist.specs.Enlisted.{Enlisted, enlisted-none, enlisted-skip, enlisted-part, none_passes, behind}
use Rattle.enlist.proofs.push_defects.Goals as goal
use Rattle.enlist.proofs.push_defects.Goals.{Joined-not-is_quiet, then-not-is_quiet, else-not-is_quiet}

-- a part of m nodes is passed
part_passed : (c : Joined-not-is_quiet) (m : ℕ) → min 32 (c.args.z.sheet - c.loop-first.first) ≡ m
    → Enlisted c.args.z.nodes c.args.count c.args.lists.now (λ j. defect_of (get_or c.args.nodes.now (512 + j) 0)) (λ j. 512 + j) (c.loop-first.first + m) c.if-not-is_quiet.q c.if-not-is_quiet.lists c.if-not-is_quiet.queued
part_passed c m p =
    let l = c.loop-first in
    let e : min l.first c.args.z.sheet ≡ l.first = omega arith in
    let E = rw e at l.invariant in
    let g : c.min-n.result ≡ m = c.min-n.ensures ∙ p in
    elim c.if-not-is_quiet.branch [
      | then-not-is_quiet w ↦
          rw (w.q-is, w.queued-is, w.lists-is, ← g)
          (enlisted-part _ _ _ _ _ _ _ _ _ E _ _ _ (λ j. sym (behind (λ x. defect_of (get_or c.args.nodes.now x 0)) l.first j)) (λ j. sym (behind (λ x. x) l.first j)) _ _ _
          (w.push_hot-q.ensures c.args.z.nodes (omega arith) E.listing.places))
      | else-not-is_quiet w ↦
          let none = none_passes _ _ (not-true _ (sym c.is_quiet.ensures ∙ w.if-not-is_quiet.false)) in
          rw (w.q-is, w.queued-is, w.lists-is, ← g) (enlisted-skip _ _ _ _ _ _ _ _ _ E _ (λ j h. behind (λ x. defect_of (get_or c.args.nodes.now x 0)) l.first j ∙ none j h))
    ]

pub loop-first-init : goal.loop-first-init
loop-first-init c = let e : min 0 c.args.z.sheet ≡ 0 = omega arith in rw e (enlisted-none _ _ _ _ _ _ c.requires.queue c.requires.places)

pub loop-first-preserved : goal.loop-first-preserved
loop-first-preserved c =
    let e : min (c.loop-first.first + 32) c.args.z.sheet ≡ c.loop-first.first + 32 = omega arith in
    rw e (part_passed (goal.at.loop-first-preserved c).Joined-not-is_quiet 32 (omega arith))

pub returns-after-not-is_quiet : goal.returns-after-not-is_quiet
returns-after-not-is_quiet c =
    let m = c.args.z.sheet - c.loop-first.first in
    let e : c.loop-first.first + m ≡ c.args.z.sheet = omega arith in
    rw e at (part_passed (goal.at.returns-after-not-is_quiet c).Joined-not-is_quiet m (omega arith))
