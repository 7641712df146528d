use Rattle.auc_claim.proofs.RangeLaws.{spelled_in_range}
use Rattle.auc_claim.proofs.cert.Cert.of.Goals as goal

pub invariant_of-result : goal.invariant_of-result
invariant_of-result c = spelled_in_range c.args.parts c.requires
