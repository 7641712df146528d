use Rattle.auc_market.specs.Market.{Stands}
use Rattle.auc_market.specs.Starts.{AreKept, any_eps}
use Rattle.auc_market.proofs.holdings.Holdings.settle.Given as goal

abbrev pub invariant-loop : goal.invariant-loop
invariant-loop l = record {
  stands : Stands l.rows any_eps l.self.prices.items l.self.holders.items l.self.owns.items;
  kept : AreKept l.fn.self.prices.items l.self.prices.items;
}
