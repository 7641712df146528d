use Rattle.std.proofs.Common.{◌∷◌, [], ap}
use Rattle.auc_claim.specs.Claim.{first_of}
use Rattle.auc_claim.proofs.checking.check_slack.Goals as goal

pub returns-then-is_slack-clause-exact : goal.returns-then-is_slack-clause-exact
returns-then-is_slack-clause-exact c = ap (λ o. first_of (o ∷ [])) (c.requires.told c.if-is_slack.true)
