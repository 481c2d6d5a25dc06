-- `work_list::work_list` meets its contract. Assumes nothing.
use Rattle.work_list.specs.Work.{work-all, work-changes}
use Rattle.work_list.proofs.work_list.Goals as goal

pub returns-then-not-changes-clause-worked : goal.returns-then-not-changes-clause-worked
returns-then-not-changes-clause-worked c = work-all _ _ _ _ _ _ _ _ _ c.if-not-changes.true _ _ _ c.all_nodes.ensures

pub returns-clause-worked : goal.returns-clause-worked
returns-clause-worked c =
    work-changes _ _ _ _ _ _ _ _ _ c.if-not-changes.false c.args.layout.now.safe.sheets _ _ _ c.push_cut-cut.ensures _ _ _ c.push_defects.ensures
