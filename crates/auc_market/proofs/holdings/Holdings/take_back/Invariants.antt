use Rattle.std.proofs.Common.{◌≡◌, ◌-◌, length}
use Rattle.auc_market.specs.Path.{set_back}
use Rattle.auc_market.proofs.holdings.Holdings.take_back.Given as goal

abbrev pub invariant-loop-done : goal.invariant-loop-done
invariant-loop-done l = record {
  back : set_back (length l.rises - l.done) l.rises l.self.prices.items ≡ set_back (length l.rises) l.rises l.fn.self.prices.items;
  holders : l.self.holders.items ≡ l.fn.self.holders.items;
  owns : l.self.owns.items ≡ l.fn.self.owns.items;
}
