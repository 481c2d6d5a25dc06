-- `enlist::push_cut` meets its contract. Assumes nothing.
use Rattle.std.proofs.Common.{rules, sym, ◌∙◌, ℕ, ◌+◌, ◌-◌, eqb, arith}
use Rattle.queue.specs.LawsParts.{none-passes}
use Rattle.enlist.specs.Enlisted.{spread_none, spread-skip}
use Rattle.enlist.proofs.push_cut.Goals as goal

pub returns-then-not-any_of : goal.returns-then-not-any_of
returns-then-not-any_of c =
    let z = c.args.layout.now.sizes in
    let b = 512 + z.nodes - z.sheet in
    spread-skip _ _ _ _ _ _ _ _ _ _ _ (spread_none _ _ _ _ _ _ _ _ c.requires.queue c.requires.places) _
    (λ j h. none-passes (λ (m : ℕ). eqb m 65535) b (b + z.sheet) c.args.marks.now (omega arith) (sym (c.any_of.ensures (λ m. eqb m 65535) (λ v b p. search rules)) ∙ c.if-not-any_of.true) j (omega arith))
