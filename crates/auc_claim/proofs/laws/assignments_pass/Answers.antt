use Rattle.std.proofs.Common.{refl}
use Rattle.auc_graph.specs.Assignment.{total_cost}
use Rattle.auc_claim.proofs.Converse.{assignment_in_range, slack_right_faultless}
use Rattle.auc_claim.proofs.laws.assignments_pass.Goals as goal

pub returns : goal.returns
returns c = record {
  in_range = assignment_in_range;
  faultless = λ p choice prices given len slack left. slack_right_faultless p choice given prices len (total_cost choice) refl slack left;
}
