use Rattle.std.specs.Prelude.{ℕ, ◌+◌, ◌-◌, ◌≡◌, min}
use Rattle.std.proofs.Common.{rules, arith, sym, ◌∙◌}
use Rattle.flat.specs.Codes.{active_of}
use Rattle.queue.specs.LawsParts.{none-passes}
use Rattle.growing.specs.Grown.{Actives}
use Rattle.growing.specs.LawsListed.{actives-on, actives-idle}
use Rattle.growing.proofs.list_active.Goals as goal
use Rattle.growing.proofs.list_active.Goals.{Joined-any_of, then-any_of, else-any_of}

-- a part of m nodes is passed
part_passed : (c : Joined-any_of) (m : ℕ) → min 64 (c.args.z.nodes - c.loop-first.first) ≡ m → Actives (c.loop-first.first + m) c.args.nodes.now c.if-any_of.q c.args.lists.now c.if-any_of.lists
part_passed c m p =
    let l = c.loop-first in
    let e : min l.first c.args.z.nodes ≡ l.first = omega arith in
    let A = rw e at l.invariant in
    elim c.if-any_of.branch [
      | then-any_of w ↦
          let f : w.min.result ≡ m = w.min.ensures ∙ p in
          rw (w.q-is, w.lists-is) (rw f at (actives-on _ _ _ _ _ A _ _ _ w.list_part-q.ensures))
      | else-any_of w ↦
          rw (w.q-is, w.lists-is) (actives-idle l.first c.args.nodes.now l.q c.args.lists.now l.lists A m (λ i h. none-passes active_of (512 + l.first) (512 + l.first + 64) c.args.nodes.now (omega arith) (sym (c.any_of.ensures active_of (λ v b p. search rules)) ∙ w.if-any_of.false) i (omega arith)))
    ]

pub loop-first-preserved : goal.loop-first-preserved
loop-first-preserved c =
    let e : min (c.loop-first.first + 64) c.args.z.nodes ≡ c.loop-first.first + 64 = omega arith in
    rw e (part_passed (goal.at.loop-first-preserved c).Joined-any_of 64 (omega arith))

pub returns-after-any_of : goal.returns-after-any_of
returns-after-any_of c =
    let m = c.args.z.nodes - c.loop-first.first in
    let e : c.loop-first.first + m ≡ c.args.z.nodes = omega arith in
    rw e at (part_passed (goal.at.returns-after-any_of c).Joined-any_of m (omega arith))
