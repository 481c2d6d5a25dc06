-- `raw::raw` meets its contract: a round of the differences, and then the sheet. Assumes nothing.
use Prim.Native.Nat.{ℕ, ◌≤◌}
use native.Mathlib.Omega.{arith}
use mathlib.Core.Path.{◌≡◌, sym, ◌∙◌, ap}
use mathlib.Core.Bool.{Bool, true}
use mathlib.Core.List.{List}
use lib.ListN.{length, take, replicate}
use lib.Seq.{length-take-le}
use Rattle.shape.specs.Sizes.{detectors_of, max_detectors}
use Rattle.shape.proofs.LawsSizes.{detectors-le}
use Rattle.steps.specs.Models.{of_model}
use Rattle.window.specs.Formed.{well_formed}
use Rattle.window.specs.LawsLists.{Fills, part-fits, part-back, part-long}
use Rattle.window.specs.Measured.{differences, as_sheet, with_sheet, measuring}
use Rattle.window.specs.LawsMeasured.{differences-long}
use Rattle.window.specs.Calls.{Round, as_round, receiving, receiving_raw}
use Rattle.window.specs.declared.Window.{Window}
use Rattle.closure.specs.Facts.{facts}
use Rattle.raw.proofs.raw.Goals as goal

after : (w v : Window) (bytes defects edges escapes : List ℕ) (sheet : List Bool) → defects ≡ differences w.measured bytes
    → as_round v edges escapes ≡ receiving (of_model w.shape.model) w defects → sheet ≡ as_sheet bytes → as_round (with_sheet v sheet) edges escapes ≡ receiving_raw (of_model w.shape.model) w bytes
unfolding measuring
after w v bytes defects edges escapes sheet d e s =
    ap (λ (r : Round). as_round (with_sheet r.window sheet) r.edges r.escapes) (e ∙ ap (receiving (of_model w.shape.model) w) d) ∙ rw s

low : (w : Window) (bytes : List ℕ) → well_formed (of_model w.shape.model) w ≡ true → length bytes ≡ detectors_of w.shape.height w.shape.distance → length bytes ≤ max_detectors
low w bytes f e = omega (arith, e, detectors-le w.shape.height w.shape.distance (facts (of_model w.shape.model) w f).ranged)

lent : (bytes : List ℕ) → length bytes ≤ max_detectors → length (take (length bytes) (replicate {A = ℕ} max_detectors 0)) ≡ length bytes
lent bytes l = length-take-le _ _ l

full : (sheet : List Bool) (bytes new : List ℕ) → new ≡ differences sheet bytes → Fills (length bytes) new
full sheet bytes new e = record { long = ap length e ∙ differences-long _ _ }

pub slice_bounds-defects-end : goal.slice_bounds-defects-end
slice_bounds-defects-end c = low c.args.w c.args.bytes.now c.requires.w_value c.requires.bytes_len

pub slice_bounds-differences-end : goal.slice_bounds-differences-end
slice_bounds-differences-end c = sym (lent c.args.bytes.now (low c.args.w c.args.bytes.now c.requires.w_value c.requires.bytes_len))

pub differences-requires : goal.differences-requires
differences-requires c =
    let l = low c.args.w c.args.bytes.now c.requires.w_value c.requires.bytes_len in record { bytes_len_bound = l; defects_len = lent c.args.bytes.now l }

pub sheet_of-sheet-requires : goal.sheet_of-sheet-requires
sheet_of-sheet-requires c = low c.args.w c.args.bytes.now c.requires.w_value c.requires.bytes_len

pub slice_bounds-defects-end-2 : goal.slice_bounds-defects-end-2
slice_bounds-defects-end-2 c = part-fits (full _ c.args.bytes.now _ c.differences.ensures) _

pub slice_bounds-round-end : goal.slice_bounds-round-end
slice_bounds-round-end c = sym (part-long (full _ c.args.bytes.now _ c.differences.ensures) _)

pub round-requires-clause-bytes_len : goal.round-requires-clause-bytes_len
round-requires-clause-bytes_len c = part-long (full _ c.args.bytes.now _ c.differences.ensures) _ ∙ c.requires.bytes_len

pub returns : goal.returns
returns c =
    let a = c.args in
    after a.w c.round.result a.bytes.now _ _ _ c.sheet_of-sheet.result (part-back (full _ a.bytes.now _ c.differences.ensures) _ ∙ c.differences.ensures) c.round.ensures c.sheet_of-sheet.ensures
