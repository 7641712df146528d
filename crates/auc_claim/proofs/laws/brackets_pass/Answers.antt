use Rattle.std.proofs.Common.{refl}
use Rattle.auc_graph.specs.Assignment.{total_cost}
use Rattle.auc_claim.proofs.Converse.{bracket_in_range, bracket_faultless}
use Rattle.auc_claim.proofs.laws.brackets_pass.Goals as goal

pub returns : goal.returns
returns c = record {
  in_range = bracket_in_range;
  faultless = λ p choice prices lower reason given len is. bracket_faultless p choice given prices len (total_cost choice) refl reason lower is;
}
