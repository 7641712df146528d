use Rattle.std.proofs.Common.{ℕ, ◌≤◌, ◌≡◌}
use Rattle.auc_letters.specs.declared.limits.TheConstants.{NOBODY}
use Rattle.auc_market.specs.Market.{own_at}
use Rattle.auc_market.specs.Starts.{AreSeated}
use Rattle.auc_market.proofs.holdings.Holdings.open_at.Given as goal

abbrev pub invariant-loop-person : goal.invariant-loop-person
invariant-loop-person l = record {
  seated : AreSeated l.rows l.start l.self.prices.items l.self.holders.items l.self.owns.items;
  none : (i : ℕ) → l.person ≤ i → (own_at l.self.owns.items i).object ≡ NOBODY;
}
