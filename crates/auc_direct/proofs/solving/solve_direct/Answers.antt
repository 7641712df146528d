use Rattle.auc_direct.specs.Endings.{IsLimitedFirst}
use Rattle.auc_direct.proofs.Answering.{never_told}
use Rattle.auc_direct.proofs.solving.solve_direct.Goals as goal

pub returns-clause-limit : goal.returns-clause-limit
returns-clause-limit c = never_told (IsLimitedFirst c.args.problem.now c.args.limits.now.bids) c.solve_direct_watched.result c.solve_direct_watched.ensures.limit
