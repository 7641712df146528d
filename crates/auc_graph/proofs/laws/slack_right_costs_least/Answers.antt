use Rattle.auc_graph.proofs.DualLaws.{slack_right_is_least}
use Rattle.auc_graph.proofs.laws.slack_right_costs_least.Goals as goal

pub returns : goal.returns
returns c = slack_right_is_least
