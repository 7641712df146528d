use Rattle.auc_direct.specs.Endings.{IsLimitedFrom}
use Rattle.auc_direct.proofs.Answering.{never_told}
use Rattle.auc_direct.proofs.solving.solve_direct_from.Goals as goal

pub returns-clause-limit : goal.returns-clause-limit
returns-clause-limit c = never_told (IsLimitedFrom c.args.problem.now c.args.limits.now.bids c.args.start.now) c.solve_direct_watched_from.result c.solve_direct_watched_from.ensures.limit
