use Rattle.std.proofs.Common.{ℕ, ◌<◌, ◌≤◌, ◌≢◌}
use Rattle.auc_letters.specs.declared.limits.TheConstants.{NOBODY}
use Rattle.auc_market.specs.Market.{own_at}
use Rattle.auc_market.proofs.holdings.Holdings.free_from.Given as goal

abbrev pub invariant-loop-at : goal.invariant-loop-at
invariant-loop-at l = record {
  passed : (i : ℕ) → l.from ≤ i → i < l.at → i ≢ l.person → i ≢ l.other → (own_at l.self.owns.items i).object ≢ NOBODY;
}
