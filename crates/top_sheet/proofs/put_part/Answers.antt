-- `top_sheet::put_part` meets its contract: the bytes passed are put. Assumes nothing.
use Rattle.std.proofs.Common.{arith, ◌≡◌, ap, ◌∙◌, ℕ, ◌+◌, ◌-◌, get_or}
use Rattle.top_sheet.specs.Received.{put_one, put_from}
use Rattle.top_sheet.specs.LawsReceived.{put-none, put_next}
use Rattle.top_sheet.proofs.put_part.Goals as goal

pub loop-i-init : goal.loop-i-init
loop-i-init c = let a = c.args in let e : 0 ≡ a.from - a.from = omega arith in put-none a.d a.bytes.now a.from a.nodes.now ∙ ap (λ (k : ℕ). put_from a.d a.bytes.now a.from k a.nodes.now) e

pub loop-i-preserved : goal.loop-i-preserved
loop-i-preserved c =
    let a = c.args in
    let l = c.loop-i in
    let x : l.i ≡ a.from + (l.i - a.from) = omega arith in
    let y : l.i - a.from + 1 ≡ l.i + 1 - a.from = omega arith in
    put_next a.d a.bytes.now a.from (l.i - a.from) a.nodes.now l.nodes c.put.new.nodes l.invariant (c.put.ensures ∙ ap (λ (k : ℕ). put_one a.d k (get_or a.bytes.now k 0) l.nodes) x)
    ∙ ap (λ (k : ℕ). put_from a.d a.bytes.now a.from k a.nodes.now) y
