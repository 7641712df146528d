use Rattle.std.proofs.Common.{ℕ, ◌<◌}
use Rattle.auc_market.specs.Path.{IsRise, rise_at}
use Rattle.auc_market.proofs.holdings.Holdings.may_rise.Given as goal

abbrev pub invariant-loop-rise : goal.invariant-loop-rise
invariant-loop-rise l = (m : ℕ) → m < l.rise-index → IsRise l.self.prices.items l.self.holders.items (rise_at l.rises m)
