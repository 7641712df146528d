use Rattle.std.proofs.Common.{ℕ, ◌≡◌, ◌<◌, length, get_or}
use Rattle.auc_letters.specs.declared.limits.TheConstants.{NOBODY}
use Rattle.auc_market.specs.Market.{no_own}
use Rattle.auc_market.proofs.holdings.Holdings.open.Given as goal

abbrev pub invariant-loop-object : goal.invariant-loop-object
invariant-loop-object l = record {
  prices : l.self.prices.items ≡ l.fn.self.prices.items;
  owns : l.self.owns.items ≡ l.fn.self.owns.items;
  many : length l.self.holders.items ≡ length l.fn.self.holders.items;
  blank : (k : ℕ) → k < l.object → get_or l.self.holders.items k NOBODY ≡ NOBODY;
}

abbrev pub invariant-loop-person : goal.invariant-loop-person
invariant-loop-person l = record {
  prices : l.self.prices.items ≡ l.fn.self.prices.items;
  holders : l.self.holders.items ≡ l.initial.self.holders.items;
  many : length l.self.owns.items ≡ length l.fn.self.owns.items;
  blank : (k : ℕ) → k < l.person → get_or l.self.owns.items k no_own ≡ no_own;
}
