use Rattle.std.proofs.Common.{arith}
use Rattle.auc_place.proofs.TokenLaws.{none_yet}
use Rattle.auc_place.proofs.finding.Finding.new.Goals as goal

pub returns-clause-is : goal.returns-clause-is
returns-clause-is c = λ number. (c.new.ensures, omega (arith, none_yet))
