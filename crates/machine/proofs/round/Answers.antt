-- `machine::round` meets its contract. Assumes nothing.
use native.Mathlib.Omega.{arith}
use mathlib.Core.Path.{sym, ◌∙◌, ap, subst}
use Rattle.flat.specs.Structs.{plan_in, state_in}
use Rattle.shape.specs.declared.Shape.{Shape}
use Rattle.shows.specs.Shows.{Shows}
use Rattle.steps.specs.Models.{of_model}
use Rattle.steps.proofs.Models.{suited-model, few-kinds}
use Rattle.window.specs.Round.{committed_edges}
use Rattle.round_step.specs.Falls.{NoneAbove}
use Rattle.round_step.specs.LawsFalls.{none_above}
use Rattle.shows.specs.Sinks.{Sinks}
use Rattle.plan.specs.Laid.{sizes-for, filled-for}
use Rattle.unpack.specs.GivenWindow.{formed-shape, kept_by}
use Rattle.machine.proofs.Packed.{none-outside, shown, received}
use Rattle.machine.proofs.round.Goals as goal

pub lay_out-laid-requires : goal.lay_out-laid-requires
lay_out-laid-requires c = (formed-shape c.args.w c.requires.w_value).sizes

pub fall-requires-clause-none_above : goal.fall-requires-clause-none_above
fall-requires-clause-none_above c =
    let w = c.args.w in
    let laid = c.lay_out-laid.result in
    let same = c.lay_out-laid.ensures in
    let kept = (kept_by w c.requires.w_value c.well_formed.0.1.1.1.1.1.0.1.0.1 c.well_formed.0.1.1.1.1.1.1.0.1.0.1 c.well_formed.0.1.1.1.1.1.1.1.0.1.0.1 c.well_formed.0.1.1.1.1.1.1.1.1.0.1.0.1) in
    let shows = shown w laid.layout.sizes (sizes-for laid w.shape same) laid.layout.table (filled-for laid w.shape same) kept _ _ _ c.unpack-old.ensures in
    subst (λ (o : Shape). NoneAbove (of_model o.model) o.height o.distance c.unpack-old.result.edges) (sym same) (none_above (of_model w.shape.model) (suited-model w.shape.model) w kept _ _ _ shows)

pub fall-requires-clause-none_outside : goal.fall-requires-clause-none_outside
fall-requires-clause-none_outside c =
    let o = c.lay_out-laid.result.shape in
    none-outside (of_model o.model) (few-kinds o.model) o.height o.distance 27648 (omega arith)

pub returns : goal.returns
returns c =
    let w = c.args.w in
    let laid = c.lay_out-laid.result in
    let same = c.lay_out-laid.ensures in
    let sizes = sizes-for laid w.shape same in
    let filled = filled-for laid w.shape same in
    let kept = (kept_by w c.requires.w_value c.well_formed.0.1.1.1.1.1.0.1.0.1 c.well_formed.0.1.1.1.1.1.1.0.1.0.1 c.well_formed.0.1.1.1.1.1.1.1.0.1.0.1 c.well_formed.0.1.1.1.1.1.1.1.1.0.1.0.1) in
    let shows : Shows (of_model w.shape.model) w (state_in c.unpack-old.result) = shown w laid.layout.sizes sizes laid.layout.table filled kept _ _ _ c.unpack-old.ensures in
    let laid-shows : Shows (of_model laid.shape.model) w (state_in c.unpack-old.result) = subst (λ (o : Shape). Shows (of_model o.model) w (state_in c.unpack-old.result)) (sym same) shows in
    let P = plan_in laid.layout in
    let before = state_in c.unpack-old.result in
    let after = state_in c.fall.new.new in
    let sinks = subst (λ (o : Shape). Sinks (of_model o.model) o.height o.distance P c.second-second.result c.args.bytes.now before after) same c.fall.ensures.sinks in
    let left = c.leave_round.ensures in
    received w laid.layout.sizes sizes laid.layout.table filled kept _ _ _ c.unpack-old.ensures
    c.requires.stage_value c.args.bytes.now c.second-second.result c.second-second.ensures _ sinks c.pack.result c.pack.ensures
    _ _ (left.out_edges_after w (sym same) c.unpack-old.result.marks laid-shows ∙ ap (λ (o : Shape). committed_edges (of_model o.model) w) same) (left.out_escapes_after w (sym same) c.unpack-old.result.marks laid-shows)
