-- `edge_step::lay_turns` meets its contract. Assumes nothing.
use Rattle.std.proofs.Common.{refl}
use Rattle.flat.specs.Laid.{laid_none, laid_next}
use Rattle.edge_step.proofs.lay_turns.Goals as goal

pub loop-w-init : goal.loop-w-init
loop-w-init c = laid_none _ _ _

pub loop-w-preserved : goal.loop-w-preserved
loop-w-preserved c = laid_next _ _ _ _ _ _ _ c.loop-w.invariant refl refl
