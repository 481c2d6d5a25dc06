-- `write_round::write` meets its contract. Assumes nothing.
use Rattle.std.proofs.Common.{refl, sym, ◌∙◌}
use Rattle.write_round.specs.LawsLeft.{written_same, committed-is, escaped-is, none-committed, none-escaped}
use Rattle.write_round.proofs.write.Goals as goal

pub returns-then-is_still : goal.returns-then-is_still
returns-then-is_still c =
    let l = c.args.laid.now in
    let a = c.args.arrays.now in
    let s = l.shape in
    λ w e marks H.
    let t = sym c.is_still.ensures ∙ c.if-is_still.true in
    written_same s c.args.steps c.args.out.now c.args.to _ _ _ _ _ c.write_quiet.ensures
    (sym (none-committed s.model _ _ l.range l.layout.sizes l.sizes l.layout.table l.filled a.nodes a.edges t) ∙ committed-is s.model _ _ l.range l.layout.sizes l.sizes l.layout.table l.filled a.nodes a.edges s refl refl w e marks H)
    (sym (none-escaped s.model _ _ l.range l.layout.sizes l.sizes l.layout.table l.filled a.nodes a.edges t) ∙ escaped-is s.model _ _ l.range l.layout.sizes l.sizes l.layout.table l.filled a.nodes a.edges s refl refl w e marks H)

pub returns : goal.returns
returns c =
    let l = c.args.laid.now in
    let a = c.args.arrays.now in
    let s = l.shape in
    λ w e marks H.
    written_same s c.args.steps c.args.out.now c.args.to _ _ _ _ _ c.write_lists.ensures
    (committed-is s.model _ _ l.range l.layout.sizes l.sizes l.layout.table l.filled a.nodes a.edges s refl refl w e marks H)
    (escaped-is s.model _ _ l.range l.layout.sizes l.sizes l.layout.table l.filled a.nodes a.edges s refl refl w e marks H)
