use Rattle.std.proofs.Common.{ℕ, ◌<◌, ◌≢◌}
use Rattle.auc_letters.specs.declared.limits.TheConstants.{NOBODY}
use Rattle.auc_market.specs.Market.{own_at}
use Rattle.auc_market.proofs.holdings.Holdings.all_have.Given as goal

abbrev pub invariant-loop-person : goal.invariant-loop-person
invariant-loop-person l = record {
  passed : (i : ℕ) → i < l.person → (own_at l.self.owns.items i).object ≢ NOBODY;
}
