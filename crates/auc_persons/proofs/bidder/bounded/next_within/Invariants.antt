use Rattle.std.proofs.Common.{ℕ, ◌+◌, ◌<◌, ◌≤◌, get_or}
use Rattle.std.specs.Prelude.{◌<ℤ◌}
use Rattle.auc_persons.specs.declared.bidder.bound.Bound.{Bound}
use Rattle.auc_persons.proofs.bidder.bounded.next_within.Given as goal

abbrev pub invariant-loop-block : goal.invariant-loop-block
invariant-loop-block l = record {
  above : (b : ℕ) (d : Bound) → l.from ≤ b → b < l.block → l.limit <ℤ (get_or l.bounds (l.start + b) d).least;
}
