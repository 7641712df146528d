use Rattle.auc_model.proofs.Copies.{copy_schedule}
use Rattle.auc_model.proofs.laws.copies_never_fall.Goals as goal

pub returns : goal.returns
returns c g w v ts run s j = copy_schedule g w ts v s j run
