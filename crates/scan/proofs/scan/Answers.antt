-- `scan::scan` meets its contract: behind the header the reading begins, and where no bytes are left, the whole stream was read.
use Rattle.std.specs.Borrow.{Bor}
use Rattle.std.proofs.Common.{ℕ, ◌-◌, ◌<◌, ◌≤◌, length, List, arith, sym, ◌∙◌, ap, ap₂, Ok, le-ltb}
use Rattle.std.proofs.lemmas.Result.{err_from_is_err_and}
use Rattle.refusal.specs.Bytes.{Bytes}
use Rattle.record.specs.Records.{header_at}
use Rattle.scan.specs.LawsScanned.{counts}
use Rattle.scan.specs.Reached.{opened, turned_down, went_on, finished}
use Rattle.scan.specs.Scanned.{passed_by}
use Rattle.scan.proofs.scan.Goals as goal

pub returns-in_err-shape : goal.returns-in_err-shape
returns-in_err-shape g c =
    let p = err_from_is_err_and c.from_residual.result c.from_residual.ensures.1 in
    let n = c.new-reader.ensures in
    let e = c.in_err-shape.ensures.0 ∙ ap₂ (λ (b : Bor (List ℕ)) (i : ℕ). header_at b.now i) n.0 n.1 in
    rw (p.1, p.2) (sym ((counts g.K.Kind.kind).unheaded c.args.src.now c.in_err-shape.field-0.0 (sym e)))

pub loop-reader-init : goal.loop-reader-init
loop-reader-init g c =
    let n = c.new-reader.ensures in
    let h = c.in_ok-shape.ensures in
    let s = c.args.src.now in
    let b : Bytes s = λ i l. omega (arith, c.type_inv.src i) in
    let e = h.0 ∙ ap₂ (λ (b : Bor (List ℕ)) (i : ℕ). header_at b.now i) n.0 n.1 in
    rw h.1 (ap (λ (b : Bor (List ℕ)). b.now) n.0, opened g.K.Kind.kind s b (Ok (c.in_ok-shape.shape, c.in_ok-shape.field-0-1)) e)

pub returns-in_err-pass : goal.returns-in_err-pass
returns-in_err-pass g c =
    let p = err_from_is_err_and c.from_residual-in_err-pass.result c.from_residual-in_err-pass.ensures.1 in
    let k = g.K.Kind.kind in
    let sh = c.in_ok-shape.shape in
    let l = c.loop-reader in
    let e = c.in_err-pass.ensures.0 ∙ ap (λ (s : List ℕ). passed_by k s sh l.reader.at) l.invariant.0 in
    rw (p.1, p.2) (turned_down k c.args.src.now sh l.rounds l.reader.at l.invariant.1 c.in_err-pass.field-0.0 (sym e)).reached.same

pub loop-reader-smaller : goal.loop-reader-smaller
loop-reader-smaller g c =
    let k = g.K.Kind.kind in
    let s = c.args.src.now in
    let sh = c.in_ok-shape.shape in
    let l = c.loop-reader in
    let h = c.in_ok-pass.ensures in
    let b : Bytes s = λ i l. omega (arith, c.type_inv.src i) in
    let e = h.0 ∙ ap (λ (s : List ℕ). passed_by k s sh l.reader.at) l.invariant.0 in
    let more : 0 < length s - l.reader.at = omega (arith, ap length l.invariant.0, c.left.ensures) in
    let f = went_on k s sh l.rounds l.reader.at l.invariant.1 b more c.in_ok-pass.field-0 e in
    rw h.1 (omega (arith, f.less))

pub loop-reader-preserved : goal.loop-reader-preserved
loop-reader-preserved g c =
    let k = g.K.Kind.kind in
    let s = c.args.src.now in
    let sh = c.in_ok-shape.shape in
    let l = c.loop-reader in
    let h = c.in_ok-pass.ensures in
    let b : Bytes s = λ i l. omega (arith, c.type_inv.src i) in
    let e = h.0 ∙ ap (λ (s : List ℕ). passed_by k s sh l.reader.at) l.invariant.0 in
    let more : 0 < length s - l.reader.at = omega (arith, ap length l.invariant.0, c.left.ensures) in
    rw h.1 (l.invariant.0, (went_on k s sh l.rounds l.reader.at l.invariant.1 b more c.in_ok-pass.field-0 e).reached)

pub returns : goal.returns
returns g c =
    let l = c.loop-reader in
    let s = c.args.src.now in
    let none : length s - l.reader.at ≤ 0 = omega (arith, ap length l.invariant.0, c.left.ensures) in
    finished g.K.Kind.kind s (Ok (c.in_ok-shape.shape, l.rounds)) l.reader.at l.invariant.1 (le-ltb 0 (length s - l.reader.at) none)
