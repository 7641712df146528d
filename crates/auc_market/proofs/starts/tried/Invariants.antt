use Rattle.std.proofs.Common.{ℕ, ◌≤◌, ◌≡◌}
use Rattle.auc_letters.specs.declared.limits.TheConstants.{NOBODY}
use Rattle.auc_market.specs.Market.{own_at}
use Rattle.auc_market.specs.Starts.{AreSeated}
use Rattle.auc_market.proofs.starts.tried.Given as goal

abbrev pub invariant-loop-person : goal.invariant-loop-person
invariant-loop-person l = record {
  seated : AreSeated l.rows l.prices l.holdings.prices.items l.holdings.holders.items l.holdings.owns.items;
  none : (i : ℕ) → l.person ≤ i → (own_at l.holdings.owns.items i).object ≡ NOBODY;
}
