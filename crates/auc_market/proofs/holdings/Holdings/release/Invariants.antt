use Rattle.std.proofs.Common.{ℕ, ◌<◌, ◌≡◌, ◌≢◌, false}
use Rattle.auc_letters.specs.declared.limits.TheConstants.{NOBODY}
use Rattle.auc_market.specs.Market.{IsSlack, Stands, own_at}
use Rattle.auc_market.specs.Starts.{AreKept, any_eps}
use Rattle.auc_market.proofs.holdings.Holdings.release.Given as goal

abbrev pub invariant-loop-person : goal.invariant-loop-person
invariant-loop-person l = record {
  stands : Stands l.rows any_eps l.self.prices.items l.self.holders.items l.self.owns.items;
  kept : AreKept l.fn.self.prices.items l.self.prices.items;
  within : l.released ≡ false → (i : ℕ) → i < l.person → (own_at l.self.owns.items i).object ≢ NOBODY → IsSlack l.rows l.eps l.self.prices.items i (own_at l.self.owns.items i);
}
