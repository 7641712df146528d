use Rattle.std.proofs.Common.{ℕ, ◌≡◌, ◌<◌, length, get_or}
use Rattle.auc_phases.specs.Shards.{new_objects, no_objects}
use Rattle.auc_machine.proofs.making.new_object_shards.Given as goal

abbrev pub invariant-loop-shard : goal.invariant-loop-shard
invariant-loop-shard l = record {
  many : length l.made.items ≡ l.shard;
  each : (q : ℕ) → q < l.shard → get_or l.made.items q no_objects ≡ new_objects l.shards (length l.rows.rows) l.prices q;
}
