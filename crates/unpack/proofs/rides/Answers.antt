-- `unpack::rides` meets its contract. Assumes nothing.
use Rattle.std.proofs.Common.{rules, tests}
use mathlib.Core.Path.{refl, ◌∙◌}
use Prim.Native.Nat.{◌+◌, ◌-◌}
use native.Mathlib.Omega.{arith}
use Rattle.std.proofs.lemmas.Iterator.{YieldsList-from_range}
use Rattle.std.proofs.lemmas.Iterator.Search.{all_from_yields_List}
use Rattle.unpack.specs.Rides.{rides_out, every-range}
use Rattle.unpack.proofs.rides.Goals as goal

pub returns : goal.returns
returns c = let z = c.args.layout.now.sizes in let a = c.args.arrays.now in
    all_from_yields_List (rides_out c.args.leaving (512 + z.nodes - z.sheet) a.nodes a.edges c.args.layout.now.table) _ _ _ c.all.ensures.ran
    (YieldsList-from_range 512 (512 + z.nodes) z.nodes refl (omega arith)) (λ x b q k. search (rules, tests))
    ∙ every-range _ _ z.nodes 512 (λ i. refl)
