-- `top_sheet::put_block` meets its contract: a block with no byte set puts nothing. Assumes nothing.
use Rattle.std.proofs.Common.{sym, ◌∙◌}
use Rattle.std.proofs.lemmas.Bool.{eqb-true}
use Rattle.top_sheet.specs.LawsReceived.{put-blank, block-blank}
use Rattle.top_sheet.proofs.put_block.Goals as goal

pub returns-else-not-none_set : goal.returns-else-not-none_set
returns-else-not-none_set c =
    let a = c.args in
    sym (put-blank a.d a.bytes.now a.from 16 a.nodes.now (block-blank a.bytes.now a.from 16 c.requires.le_d.2 (eqb-true _ _ (sym c.none_set.ensures ∙ c.if-not-none_set.false))))
