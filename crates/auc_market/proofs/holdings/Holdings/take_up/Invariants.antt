use Rattle.std.proofs.Common.{◌≡◌, length}
use Rattle.auc_market.specs.Incumbent.{AreTaken}
use Rattle.auc_market.proofs.holdings.Holdings.take_up.Given as goal

abbrev pub invariant-loop-person : goal.invariant-loop-person
invariant-loop-person l = record {
  many : length l.holders.items ≡ length l.fn.self.holders.items;
  taken : AreTaken l.person l.holders.items l.fn.owns.items;
}
