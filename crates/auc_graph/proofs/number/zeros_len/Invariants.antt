use Rattle.std.proofs.Common.{◌≡◌, ℕ, ◌<◌, true, get_or}
use Rattle.auc_graph.specs.Numbers.{is_zero}
use Rattle.auc_graph.proofs.number.zeros_len.Given as goal

abbrev pub invariant-loop-i : goal.invariant-loop-i
invariant-loop-i l = (k : ℕ) → k < l.i → is_zero (get_or l.bytes k 0) ≡ true
