use Rattle.auc_model.proofs.Theorems.{stuck_only}
use Rattle.auc_model.proofs.laws.stuck_has_its_cause.Goals as goal

pub returns : goal.returns
returns c = stuck_only
