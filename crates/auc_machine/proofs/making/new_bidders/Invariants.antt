use Rattle.std.proofs.Common.{ℤ, ◌≡◌, List, length}
use Rattle.std.specs.Prelude.{All}
use Rattle.auc_persons.specs.Candidates.{Kept}
use Rattle.auc_machine.proofs.making.new_bidders.Given as goal

abbrev pub invariant-loop-shard : goal.invariant-loop-shard
invariant-loop-shard l = record {
  many : length l.made.items ≡ l.shard;
  each : (prices : List ℤ) → All (Kept l.rows prices) l.made.items;
}
