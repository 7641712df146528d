use Rattle.auc_hall.proofs.TooFewObjects.{no_assignment}
use Rattle.auc_hall.proofs.laws.hall_sets_leave_no_assignment.Goals as goal

pub returns : goal.returns
returns c = no_assignment
