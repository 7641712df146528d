use Rattle.std.proofs.Common.{ℕ, ◌<◌}
use Rattle.auc_market.specs.Path.{IsWithin}
use Rattle.auc_market.proofs.holdings.Holdings.all_within.Given as goal

abbrev pub invariant-loop-person : goal.invariant-loop-person
invariant-loop-person l = (i : ℕ) → i < l.person → IsWithin l.rows l.eps l.self.prices.items l.self.owns.items i
