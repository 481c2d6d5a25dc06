-- A turn that goes on has decoded a round, or written out the header.
use Rattle.std.proofs.Common.{refl, ◌≡◌, ℕ, zero, suc, ◌+◌, ◌≤◌, ◌<◌, length, ap, arith}
use Rattle.steps.specs.Models.{of_model}
use Rattle.decoding.specs.Answers.{RoundsReturned}
use Rattle.decoding.specs.Decoding.{rounds}
use Rattle.decoding.proofs.Resumed.{onward}
use Rattle.decode.proofs.decode_rounds.Invariants.{bound}
use Rattle.decode.proofs.decode_rounds.Goals as goal

less : (len at next to out : ℕ) → at ≤ next → (0 < out → (at < next) × (next ≤ len)) → 0 < to + out → bound len next 0 < bound len at to
less len at next zero out s f p = let g = f (omega (arith, p)) in omega (arith, g.0, g.1)
less len at next (suc to) out s f p = omega arith

positive : (to : ℕ) {n : ℕ} → to ≡ n → (to ≡ 0 → ⊥) → 0 < n
positive zero e f = absurd (f refl)
positive (suc to) e f = omega (arith, e)

pub loop-r-smaller : goal.loop-r-smaller
loop-r-smaller g c =
    let l = c.loop-r in
    let r = c.decode_rounds-r in
    let T = of_model l.window.shape.model in
    let o = onward T c.args.src.now (λ i k. omega (arith, c.type_inv.src i)) (length l.out) l.window l.at l.to in
    let n = ap (λ (p : RoundsReturned). p.next) r.ensures in
    let e = ap (λ (p : RoundsReturned). p.behind) r.ensures in
    less (length c.args.src.now) l.at r.result.at l.to (length (rounds T c.args.src.now (length l.out) l.window l.at l.to).output)
    (omega (arith, o.still, n))
    (λ p. let g = o.forward p in (omega (arith, g.0, n), omega (arith, g.1, n)))
    (positive r.result.to e c.if-r-eq0.false)
