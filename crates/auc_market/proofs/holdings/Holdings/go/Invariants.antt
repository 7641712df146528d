use Rattle.auc_market.specs.Augmented.{IsAugmented}
use Rattle.auc_market.proofs.holdings.Holdings.go.Given as goal

abbrev pub invariant-loop-place : goal.invariant-loop-place
invariant-loop-place l = IsAugmented l.rows l.eps l.person l.fn.self.prices.items l.self.prices.items l.fn.self.holders.items l.self.holders.items l.fn.self.owns.items l.self.owns.items l.free
