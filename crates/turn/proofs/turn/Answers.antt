-- `turn::turn` meets its contract: the parts' promises, of whichever window the arrays held. Assumes nothing.
use mathlib.Core.Path.{sym, subst}
use Rattle.flat.specs.Plan.{Safe}
use Rattle.flat.specs.Structs.{plan_in, state_in}
use Rattle.flat.specs.declared.Sizes.{Sizes}
use Rattle.turn.specs.Turned.{held-above, turned-standing, turned-inside, turned-shown, turned}
use Rattle.turn.proofs.turn.Goals as goal

pub fall-requires-clause-none_above : goal.fall-requires-clause-none_above
fall-requires-clause-none_above c =
    let a = c.args in
    let old = a.old.now in
    held-above _ _ _ old.nodes old.marks old.edges _ _ c.requires.ready.held

pub grow-opened-requires-clause-standing : goal.grow-opened-requires-clause-standing
grow-opened-requires-clause-standing c =
    let a = c.args in
    let l = a.laid.now.layout in
    let r = c.requires.ready in
    turned-standing (plan_in l) a.laid.now.shape a.held.next _ c.second-second.ensures a.bytes.now a.held.rides a.held.quiet (state_in a.old.now) _ c.fall.ensures.sinks l.sizes r.sizes r.held.0 r.held.1 r.held.2 r.held.3

pub work_list-listed-requires-clause-by_index : goal.work_list-listed-requires-clause-by_index
work_list-listed-requires-clause-by_index c =
    let a = c.args in
    let l = a.laid.now.layout in
    let r = c.requires.ready in
    let g = c.grow-opened in
    let new = g.new.arrays in
    turned-inside (plan_in l) a.laid.now.shape a.held.next _ c.second-second.ensures a.bytes.now a.held.rides a.held.quiet (state_in a.old.now) _ c.fall.ensures.sinks l.sizes r.sizes r.held.0 r.held.1 r.held.2 r.held.3 new.nodes new.marks new.edges g.ensures.grows

pub run-requires-clause-shown : goal.run-requires-clause-shown
run-requires-clause-shown c =
    let a = c.args in
    let l = a.laid.now.layout in
    let r = c.requires.ready in
    let safe : Safe l.sizes l.table = subst (λ (y : Sizes). Safe y l.table) (sym r.sizes) r.filled.safe in
    let g = c.grow-opened in
    let new = g.new.arrays in
    turned-shown (plan_in l) a.laid.now.shape a.held.next _ c.second-second.ensures a.bytes.now a.held.rides a.held.quiet (state_in a.old.now) _ c.fall.ensures.sinks l.sizes r.sizes r.held.0 r.held.1 r.held.2 r.held.3 new.nodes new.marks new.edges g.ensures.grows safe.sheets _ _ _ g.ensures.openings _ _ _ c.work_list-listed.ensures.worked

pub returns : goal.returns
returns c =
    let a = c.args in
    let l = a.laid.now.layout in
    let r = c.requires.ready in
    let safe : Safe l.sizes l.table = subst (λ (y : Sizes). Safe y l.table) (sym r.sizes) r.filled.safe in
    let g = c.grow-opened in
    let new = g.new.arrays in
    let end = c.run.ensures in
    record {
      long = end.long;
      scratch = record { lists-long = end.lists-long; empty = end.empty; words_long = end.words_long };
      turns = λ w e n H. turned (plan_in l) a.laid.now.shape a.held.next _ c.second-second.ensures a.bytes.now a.held.rides a.held.quiet (state_in a.old.now) _ c.fall.ensures.sinks l.sizes r.sizes w e n H new.nodes new.marks new.edges g.ensures.grows safe.sheets _ _ _ g.ensures.openings _ _ _ c.work_list-listed.ensures.worked _ _ _ end.ended;
    }
