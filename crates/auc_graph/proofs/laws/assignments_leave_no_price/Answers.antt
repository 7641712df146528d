use Rattle.auc_graph.proofs.DualLaws.{none_left_over}
use Rattle.auc_graph.proofs.laws.assignments_leave_no_price.Goals as goal

pub returns : goal.returns
returns c = none_left_over
