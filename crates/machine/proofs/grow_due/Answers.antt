-- `machine::grow_due` meets its contract. Assumes nothing.
use mathlib.Core.Path.{refl, sym, ◌∙◌}
use native.Mathlib.Omega.{arith}
use Rattle.refusal.specs.Laws.{undone}
use Rattle.queue.specs.LawsEmpty.{queue-none}
use Rattle.machine.proofs.grow_due.Goals as goal

pub returns : goal.returns
returns c =
    record {
      grows = λ e. absurd (undone (sym e ∙ c.if-due.false));
      same = λ e. refl;
      queue = queue-none 0 _ _ c.requires.lists_len.0 c.requires.lists_len.1;
      places = λ i l. absurd (omega arith);
    }
