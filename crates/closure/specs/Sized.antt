-- The arrays of a window have their lengths, which the rules keep. Assumes nothing.
use Rattle.std.specs.Prelude.{ℕ, ◌*◌, ◌≤◌, ◌≡◌, Bool, length}
use Rattle.std.proofs.Common.{mul-le-mul_left, arith, ◌∙◌}
use Rattle.shape.specs.Sizes.{max_nodes, max_detectors}
use Rattle.shape.proofs.LawsIndex.{nodes-max}
use Rattle.window.specs.Lists.{over}
use Rattle.window.specs.LawsLists.{length_over}
use Rattle.steps.specs.Steps.{Table}
use Rattle.window.specs.Fresh.{slots_of}
use Rattle.window.specs.Window.{size}
use Rattle.window.specs.declared.Node.{Node}
use Rattle.window.specs.declared.Window.{Window}

-- so it is of every value of the declared struct
pub record Sized (T : Table) (w : Window) : Type 0 where
  pub nodes : length w.nodes ≡ max_nodes
  pub growth : length w.growth ≡ slots_of T
  pub correction : length w.correction ≡ slots_of T
  pub measured : length w.measured ≡ max_detectors

module _ (w : Window) where
  pub size-le : size w ≤ max_nodes
  size-le = nodes-max w.shape.height w.shape.distance

  slots-le : (T : Table) → T.kinds * size w ≤ slots_of T
  slots-le T = omega (arith, mul-le-mul_left T.kinds size-le)

  module _ (T : Table) (s : Sized T w) where
    pub nodes-over : (f : ℕ → Node) → length (over (size w) f w.nodes) ≡ max_nodes
    nodes-over f = length_over f w.nodes (size w) (omega (arith, size-le, s.nodes)) ∙ s.nodes

    pub growth-over : (f : ℕ → ℕ) → length (over (T.kinds * size w) f w.growth) ≡ slots_of T
    growth-over f = length_over f w.growth (T.kinds * size w) (omega (arith, slots-le T, s.growth)) ∙ s.growth

    pub correction-over : (f : ℕ → Bool) → length (over (T.kinds * size w) f w.correction) ≡ slots_of T
    correction-over f = length_over f w.correction (T.kinds * size w) (omega (arith, slots-le T, s.correction)) ∙ s.correction
