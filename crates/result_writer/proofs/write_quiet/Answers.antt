-- `result_writer::write_quiet` meets its contract: empty lists have the bytes of lists of zeros. Assumes nothing.
use mathlib.Core.Path.{sym, ◌∙◌, ap}
use mathlib.Core.List.{List, []}
use Prim.Native.Nat.{ℕ}
use lib.ListN.{replicate}
use Rattle.refusal.specs.Writing.{writing}
use Rattle.list_writer.specs.Laws.{top-nil, top-zeros, measured-zero}
use Rattle.shape.specs.Sizes.{detectors_of, layer_edges_of}
use Rattle.result_writer.proofs.Passing.{known, zeros-bits, zeros-long, quiet_is}
use Rattle.result_writer.proofs.write_quiet.Goals as goal

pub invariant_of-none : goal.invariant_of-none
invariant_of-none c = record { measured = measured-zero [] top-nil }

pub returns : goal.returns
returns c =
    let a = c.args in
    let m = layer_edges_of a.shape.model a.shape.height a.shape.distance in
    let n = detectors_of a.shape.height a.shape.distance in
    c.put_from.ensures
    ∙ ap (λ (bytes : List ℕ). writing [] a.out.now a.at bytes)
    (quiet_is [] [] a.steps top-nil top-nil ∙ sym (quiet_is (replicate m 0) (replicate n 0) a.steps (top-zeros m) (top-zeros n)))
    ∙ known a.shape (replicate m 0) (replicate n 0) a.out.now a.at c.requires.shape c.requires.at_in_bounds (zeros-long m) (zeros-long n) (zeros-bits m) (zeros-bits n) a.steps
