use Rattle.std.proofs.Common.{◌≡◌, length}
use Rattle.auc_market.proofs.holdings.Holdings.reached.Given as goal

abbrev pub invariant-loop-settled : goal.invariant-loop-settled
invariant-loop-settled l = length l.is_in.items ≡ length l.rows.rows
