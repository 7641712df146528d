use Rattle.auc_claim.proofs.ClaimLaws.{faultless_is_allowed}
use Rattle.auc_claim.proofs.laws.faultless_claims_are_allowed.Goals as goal

pub returns : goal.returns
returns c = faultless_is_allowed
