use Rattle.std.proofs.Common.{ℕ, pos, ◌≡◌, ◌<◌, length, get_or}
use Rattle.auc_market.proofs.holdings.Holdings.empty.Given as goal

abbrev pub invariant-loop-object : goal.invariant-loop-object
invariant-loop-object l = record {
  holders : l.self.holders.items ≡ l.fn.self.holders.items;
  owns : l.self.owns.items ≡ l.fn.self.owns.items;
  many : length l.self.prices.items ≡ length l.fn.self.prices.items;
  blank : (k : ℕ) → k < l.object → get_or l.self.prices.items k (pos 0) ≡ pos 0;
}
