-- `session::decode_resting` meets its contract: the arrays hold the window, and the one reached is packed from its set. Assumes nothing.
use mathlib.Core.Path.{refl, sym, ◌∙◌, ap, subst}
use mathlib.Core.Bool.{false}
use Rattle.steps.specs.Models.{of_model}
use Rattle.std.proofs.Common.{Bor}
use Rattle.shape.specs.Choice.{if}
use Rattle.window.specs.declared.Stage.TheVariants.{Rest}
use Rattle.shows.specs.Shows.{window_of}
use Rattle.flat.specs.declared.arrays.Arrays.{Arrays}
use Rattle.shape.specs.declared.Shape.{Shape}
use Rattle.decoding.specs.Answers.{line_of}
use Rattle.shows.specs.Turn.{Held}
use Rattle.rounds_on.specs.Rounds.{RoundsEnd}
use Rattle.flat.specs.Structs.{plan_in, state_in}
use Rattle.plan.specs.Laid.{sizes-for, filled-for}
use Rattle.unpack.specs.GivenWindow.{formed-shape, kept_by}
use Rattle.starting.proofs.Starts.{long-empty, scratch-made, none_made, resting-starts}
use Rattle.session.specs.Ends.{packed-other, packed-first}
use Rattle.session.proofs.decode_resting.Goals as goal
use Rattle.session.proofs.decode_resting.Goals.{then-r, else-r}

pub lay_out-laid-requires : goal.lay_out-laid-requires
lay_out-laid-requires c =
    (formed-shape c.args.w c.requires.w_value).sizes

pub rounds_on-r-requires : goal.rounds_on-r-requires
rounds_on-r-requires c =
    let w = c.args.w in
    let laid = c.lay_out-laid.result in
    let same = c.lay_out-laid.ensures in
    let sizes = sizes-for laid w.shape same in
    let filled = filled-for laid w.shape same in
    let unpacked = c.unpack-first.ensures in
    let kept = kept_by w c.requires.w_value c.well_formed.0.1.1.1.1.1.0.1.0.1 c.well_formed.0.1.1.1.1.1.1.0.1.0.1 c.well_formed.0.1.1.1.1.1.1.1.0.1.0.1 c.well_formed.0.1.1.1.1.1.1.1.1.0.1.0.1 in
    rw same
    record {
      range = formed-shape w c.requires.w_value;
      sizes = sizes;
      filled = filled;
      long = record { of-nodes = unpacked.nodes-long; of-marks = unpacked.marks-long; of-edges = unpacked.edges-long };
      free = long-empty _ refl refl refl;
      outside = none_made _ _ _ _ filled;
      scratch = scratch-made _ refl refl refl;
      held = (w, refl, refl, resting-starts w kept c.requires.stage_value _ sizes _ filled _ _ _ unpacked _ c.rides-rides.ensures);
    }

pub returns : goal.returns
returns c =
    let w = c.args.w in
    let laid = c.lay_out-laid.result in
    let same = c.lay_out-laid.ensures in
    let sizes = sizes-for laid w.shape same in
    let filled = filled-for laid w.shape same in
    let unpacked = c.unpack-first.ensures in
    let kept = kept_by w c.requires.w_value c.well_formed.0.1.1.1.1.1.0.1.0.1 c.well_formed.0.1.1.1.1.1.1.0.1.0.1 c.well_formed.0.1.1.1.1.1.1.1.0.1.0.1 c.well_formed.0.1.1.1.1.1.1.1.1.0.1.0.1 in
    let a = c.args in
    let r = c.rounds_on-r in
    let held = subst (λ (o : Shape). Held (of_model o.model) (plan_in laid.layout) w (state_in c.unpack-first.result) c.rides-rides.result false) (sym same) (resting-starts w kept c.requires.stage_value _ sizes _ filled _ _ _ unpacked _ c.rides-rides.ensures) in
    let end = subst
    (λ (o : Shape). RoundsEnd (of_model o.model) w a.src.now a.at a.out.now a.to (line_of r.result.ending) r.result.at r.result.to r.new.out r.result.next (if r.result.other (state_in r.new.other) (state_in r.new.first)))
    same (r.ensures w (sym same) refl held) in
    elim c.if-r.branch [
      | then-r b ↦ packed-other (of_model w.shape.model) w _ _ _ _ _ _ _ _ _ _ _ _ end _ b.if-r.true (c.pack.ensures ∙ ap (λ (x : Bor Arrays). window_of (of_model w.shape.model) w.shape Rest r.result.next w.measured (state_in x.now)) b.arrays-is)
      | else-r b ↦ packed-first (of_model w.shape.model) w _ _ _ _ _ _ _ _ _ _ _ _ end _ b.if-r.false (c.pack.ensures ∙ ap (λ (x : Bor Arrays). window_of (of_model w.shape.model) w.shape Rest r.result.next w.measured (state_in x.now)) b.arrays-is)
    ]
