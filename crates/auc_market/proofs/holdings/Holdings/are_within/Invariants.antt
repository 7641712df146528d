use Rattle.std.proofs.Common.{ℕ, ◌<◌, get_or}
use Rattle.auc_market.specs.declared.search.Rise.{Rise}
use Rattle.auc_market.specs.Market.{holder_at}
use Rattle.auc_market.specs.Path.{IsWithin}
use Rattle.auc_market.proofs.holdings.Holdings.are_within.Given as goal

abbrev pub invariant-loop-rise : goal.invariant-loop-rise
invariant-loop-rise l = (m : ℕ) (d : Rise) → m < l.rise-index → IsWithin l.rows l.eps l.self.prices.items l.self.owns.items (holder_at l.self.holders.items (get_or l.rises m d).object)
