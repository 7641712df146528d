use Rattle.auc_model.proofs.Chosen.{holders_are_assignment}
use Rattle.auc_model.proofs.CountedSlack.{held_costs_least, held_slack_right, left_unheld}
use Rattle.auc_model.proofs.laws.counted_holders_are_assigned.Goals as goal

pub returns : goal.returns
returns c = record { assigned = holders_are_assignment; left = left_unheld; slack = held_slack_right; least = held_costs_least }
