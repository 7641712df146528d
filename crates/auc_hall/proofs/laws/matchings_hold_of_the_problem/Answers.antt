use Rattle.auc_hall.proofs.ProblemLaws.{matching_of}
use Rattle.auc_hall.proofs.laws.matchings_hold_of_the_problem.Goals as goal

pub returns : goal.returns
returns c = matching_of
