use Rattle.auc_claim.proofs.RangeLaws.{faultless_is_spelled}
use Rattle.auc_claim.proofs.laws.faultless_claims_are_spelled.Goals as goal

pub returns : goal.returns
returns c = λ p claim is most few. faultless_is_spelled p is most few claim
