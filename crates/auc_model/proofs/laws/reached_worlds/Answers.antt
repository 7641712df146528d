use Rattle.auc_model.proofs.Reached.{reached_on, reached_start, reached_turn, schedule_nodes}
use Rattle.auc_model.proofs.laws.reached_worlds.Goals as goal

pub returns : goal.returns
returns c = record {
  begins = reached_start;
  turn = reached_turn;
  schedule = reached_on;
  nodes = (λ g w v ts run name. schedule_nodes g w ts v run name);
}
