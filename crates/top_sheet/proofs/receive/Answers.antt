-- `top_sheet::receive` meets its contract: the bytes passed are put. Assumes nothing.
use Rattle.std.proofs.Common.{arith, ◌≡◌, ap, sym, ◌∙◌, subst, ℕ, ◌+◌, ◌-◌, ◌*◌, ◌/◌, length, List}
use Rattle.shape.proofs.Ranges.{ranged}
use Rattle.shape.specs.Sizes.{detectors_of}
use Rattle.top_sheet.specs.Received.{Received, put_from}
use Rattle.top_sheet.specs.LawsReceived.{put-none, part-on, received}
use Rattle.top_sheet.proofs.receive.Goals as goal

pub loop-k-init : goal.loop-k-init
loop-k-init c = let a = c.args in put-none a.shape.distance a.bytes.now 0 a.nodes.now

pub loop-k-preserved : goal.loop-k-preserved
loop-k-preserved c =
    let a = c.args in
    let l = c.loop-k in
    let e : l.k * 16 + 16 ≡ (l.k + 1) * 16 = omega arith in
    part-on a.shape.distance a.bytes.now (l.k * 16) 16 a.nodes.now l.nodes _ l.invariant c.put_block.ensures ∙ ap (λ (k : ℕ). put_from a.shape.distance a.bytes.now 0 k a.nodes.now) e

pub returns : goal.returns
returns c =
    let a = c.args in
    let h = a.shape.height in
    let d = a.shape.distance in
    let l = c.loop-k in
    let n = length a.bytes.now in
    let rest = n / 16 * 16 in
    let e : l.k * 16 ≡ rest = omega (arith, c.loop-k-test.false) in
    let f : rest + (n - rest) ≡ detectors_of h d = omega (arith, c.requires.bytes_len) in
    let all =
    part-on d a.bytes.now rest (n - rest) a.nodes.now l.nodes _ (l.invariant ∙ ap (λ (k : ℕ). put_from d a.bytes.now 0 k a.nodes.now) e) c.put_part.ensures
    ∙ ap (λ (k : ℕ). put_from d a.bytes.now 0 k a.nodes.now) f in
    subst (λ (m : List ℕ). Received h d a.bytes.now a.nodes.now m) (sym all) (received h d (ranged h d c.requires.distance_value) a.bytes.now a.nodes.now c.requires.nodes_len c.requires.by_index)
