use Rattle.auc_claim.proofs.HallLaws.{hall_set_in_range}
use Rattle.auc_claim.proofs.ClaimLaws.{hall_sets_faultless}
use Rattle.auc_claim.proofs.laws.hall_sets_pass.Goals as goal

pub returns-clause-in_range : goal.returns-clause-in_range
returns-clause-in_range c = hall_set_in_range

pub returns-clause-faultless : goal.returns-clause-faultless
returns-clause-faultless c = hall_sets_faultless
