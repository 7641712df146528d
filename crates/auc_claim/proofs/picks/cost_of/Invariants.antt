use Rattle.std.proofs.Common.{◌≡◌, ◌*◌, ◌^◌, take, pos, neg_ℤ, ◌≤ℤ◌}
use Rattle.auc_graph.specs.Assignment.{total_cost}
use Rattle.auc_claim.specs.Claim.{chosen}
use Rattle.auc_claim.proofs.picks.cost_of.Given as goal

abbrev pub invariant-loop-pick : goal.invariant-loop-pick
invariant-loop-pick l = record {
  so_far : l.sum ≡ total_cost (chosen 0 (take l.pick-index l.choice));
  low : neg_ℤ (pos (2 ^ 63 * l.pick-index)) ≤ℤ l.sum;
  high : l.sum ≤ℤ pos (2 ^ 63 * l.pick-index);
}
