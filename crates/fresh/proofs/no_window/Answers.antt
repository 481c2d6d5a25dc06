-- `fresh::no_window` meets its contract. Assumes nothing.
use Rattle.fresh.proofs.Opened.{none-by}
use Rattle.fresh.proofs.no_window.Goals as goal

pub returns : goal.returns
returns c = none-by c.alone.result c.alone.ensures
