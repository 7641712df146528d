use Rattle.auc_direct.proofs.Answering.{each_has_arc, rows_of_nobody_stuck}
use Rattle.auc_direct.proofs.solving.answered.Goals as goal

pub returns-clause-none : goal.returns-clause-none
returns-clause-none c =
    let prepared = rw c.in-Rows.is at c.in_ok-answer.ensures in
    each_has_arc c.args.problem.now c.args.flat.now c.requires (rows_of_nobody_stuck c.args.problem.now c.in-Rows.field-0 prepared.0 prepared.1)
