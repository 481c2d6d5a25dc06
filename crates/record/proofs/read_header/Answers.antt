-- `record::read_header` meets its contract: each number is tested as soon as it is read. Assumes nothing.
use Rattle.std.proofs.Common.{rules, ◌≡◌, sym, ◌∙◌, Err}
use Rattle.record.proofs.Laws.{header-none, header-next, height-wrong, distance-turned, distance_next, distance-wrong, model-turned, model-wrong, header-done}
use Rattle.record.proofs.read_header.Goals as goal

pub returns-in_err-height : goal.returns-in_err-height
returns-in_err-height c =
    let a = c.args in
    let f = c.in_err-height.field-0.0 in
    let e : c.from_residual.result ≡ Err f = search rules in
    rw e (sym (header-none a.src.now a.at f (sym c.in_err-height.ensures)))

pub returns-then-not-height_ok : goal.returns-then-not-height_ok
returns-then-not-height_ok c =
    let a = c.args in
    let h = c.in_ok-height in
    sym (header-next a.src.now a.at h.height h.next (sym h.ensures) ∙ height-wrong a.src.now h.height h.next (sym c.if-not-height_ok.ensures))

pub returns-in_err-distance : goal.returns-in_err-distance
returns-in_err-distance c =
    let a = c.args in
    let h = c.in_ok-height in
    let f = c.in_err-distance.field-0.0 in
    let e : c.from_residual-in_err-distance.result ≡ Err f = search rules in
    rw e (sym (header-next a.src.now a.at h.height h.next (sym h.ensures) ∙ distance-turned a.src.now h.height h.next (sym c.if-not-height_ok.ensures) f (sym c.in_err-distance.ensures)))

pub returns-then-not-distance_ok : goal.returns-then-not-distance_ok
returns-then-not-distance_ok c =
    let a = c.args in
    let h = c.in_ok-height in
    let d = c.in_ok-distance in
    sym (header-next a.src.now a.at h.height h.next (sym h.ensures)
    ∙ distance_next a.src.now h.height h.next (sym c.if-not-height_ok.ensures) d.distance d.last (sym d.ensures)
    ∙ distance-wrong a.src.now h.height d.distance d.last (sym c.if-not-distance_ok.ensures))

pub returns-in_err-model : goal.returns-in_err-model
returns-in_err-model c =
    let a = c.args in
    let h = c.in_ok-height in
    let d = c.in_ok-distance in
    let f = c.in_err-model.field-0.0 in
    let e : c.from_residual-in_err-model.result ≡ Err f = search rules in
    rw e (sym (header-next a.src.now a.at h.height h.next (sym h.ensures)
    ∙ distance_next a.src.now h.height h.next (sym c.if-not-height_ok.ensures) d.distance d.last (sym d.ensures)
    ∙ model-turned a.src.now h.height d.distance d.last (sym c.if-not-distance_ok.ensures) f (sym c.in_err-model.ensures)))

pub returns-then-not-model_ok : goal.returns-then-not-model_ok
returns-then-not-model_ok c =
    let a = c.args in
    let h = c.in_ok-height in
    let d = c.in_ok-distance in
    let m = c.in_ok-model in
    sym (header-next a.src.now a.at h.height h.next (sym h.ensures)
    ∙ distance_next a.src.now h.height h.next (sym c.if-not-height_ok.ensures) d.distance d.last (sym d.ensures)
    ∙ model-wrong a.src.now h.height d.distance d.last (sym c.if-not-distance_ok.ensures) m.model m.behind (sym m.ensures) (sym c.if-not-model_ok.ensures))

pub returns : goal.returns
returns c =
    let a = c.args in
    let h = c.in_ok-height in
    let d = c.in_ok-distance in
    let m = c.in_ok-model in
    sym (header-next a.src.now a.at h.height h.next (sym h.ensures)
    ∙ distance_next a.src.now h.height h.next (sym c.if-not-height_ok.ensures) d.distance d.last (sym d.ensures)
    ∙ header-done a.src.now h.height d.distance d.last (sym c.if-not-distance_ok.ensures) m.model m.behind (sym m.ensures) (sym c.if-not-model_ok.ensures))
