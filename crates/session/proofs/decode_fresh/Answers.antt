-- `session::decode_fresh` meets its contract: the arrays that are made hold the fresh window. Assumes nothing.
use mathlib.Core.Path.{◌≡◌, refl, sym, ◌∙◌, subst}
use mathlib.Core.Bool.{true}
use mathlib.Core.List.{List}
use lib.ListN.{replicate}
use Rattle.std.specs.Prelude.{get_or}
use Rattle.steps.specs.Models.{of_model}
use Rattle.window.specs.Fresh.{fresh_window}
use Rattle.shape.specs.declared.Shape.{Shape}
use Rattle.decoding.specs.Answers.{line_of, rounds_returned, rounds_leave}
use Rattle.shows.specs.Turn.{Held}
use Rattle.flat.specs.Structs.{plan_in, state_in}
use Rattle.flat.specs.Stored.{stored}
use Rattle.flat.specs.declared.arrays.Arrays.{Arrays}
use Rattle.plan.specs.Laid.{sizes-for, filled-for}
use Rattle.starting.proofs.Starts.{long-empty, scratch-made, none_made, fresh-arrays, fresh-stands, fresh-shape, fresh-next}
use Rattle.session.proofs.decode_fresh.Goals as goal

pub rounds_on-requires : goal.rounds_on-requires
rounds_on-requires c =
    let sh = c.args.shape in
    let laid = c.lay_out-laid.result in
    let same = c.lay_out-laid.ensures in
    let sizes = sizes-for laid sh same in
    let filled = filled-for laid sh same in
    let marks = c.own_marks.ensures in
    let first : Arrays = record { nodes = replicate 4608 0; marks = c.own_marks.new.marks; edges = replicate 27648 3 } in
    rw same
    record {
      range = c.requires;
      sizes = sizes;
      filled = filled;
      long = fresh-arrays sh c.requires _ sizes _ filled first refl marks refl;
      free = long-empty _ refl refl refl;
      outside = none_made _ _ _ _ filled;
      scratch = scratch-made _ refl refl refl;
      held = (fresh_window (of_model sh.model) sh, fresh-shape sh, fresh-next sh ∙ sym c.sheets.ensures, fresh-stands sh c.requires _ sizes _ filled first refl marks refl);
    }

pub returns : goal.returns
returns c =
    let sh = c.args.shape in
    let laid = c.lay_out-laid.result in
    let same = c.lay_out-laid.ensures in
    let sizes = sizes-for laid sh same in
    let filled = filled-for laid sh same in
    let marks = c.own_marks.ensures in
    let first : Arrays = record { nodes = replicate 4608 0; marks = c.own_marks.new.marks; edges = replicate 27648 3 } in
    let held = subst (λ (o : Shape). Held (of_model o.model) (plan_in laid.layout) (fresh_window (of_model sh.model) sh) (state_in first) true true) (sym same) (fresh-stands sh c.requires _ sizes _ filled first refl marks refl) in
    let e = c.rounds_on.ensures (fresh_window (of_model sh.model) sh) (fresh-shape sh ∙ sym same) (fresh-next sh ∙ sym c.sheets.ensures) held in
    let r = c.rounds_on in
    let leaves = subst (λ (o : Shape). rounds_returned (line_of r.result.ending) e.window r.result.at r.result.to r.new.out ≡ rounds_leave (of_model o.model) c.args.src.now (fresh_window (of_model sh.model) sh) c.args.at c.args.out.now c.args.to) same e.leaves in
    (e.window, leaves)
