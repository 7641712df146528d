use Rattle.std.proofs.Common.{ℕ, ◌≡◌, ◌≤◌, length}
use Rattle.auc_market.specs.Path.{AreRaised, rise_at, set_back}
use Rattle.auc_market.proofs.holdings.Holdings.raise.Given as goal

abbrev pub invariant-loop-place : goal.invariant-loop-place
invariant-loop-place l = record {
  raised : AreRaised l.fn.self.prices.items l.self.prices.items l.fn.self.holders.items l.rises l.place;
  back : set_back l.place l.rises l.self.prices.items ≡ l.fn.self.prices.items;
  many : length l.rises ≡ length l.fn.rises;
  rest : (m : ℕ) → l.place ≤ m → rise_at l.rises m ≡ rise_at l.fn.rises m;
  holders : l.self.holders.items ≡ l.fn.self.holders.items;
  owns : l.self.owns.items ≡ l.fn.self.owns.items;
}
