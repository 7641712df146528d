use Rattle.std.proofs.Common.{ℕ, ◌≡◌, ◌<◌, length, get_or}
use Rattle.auc_phases.specs.Shards.{new_persons, no_persons}
use Rattle.auc_machine.proofs.making.new_person_shards.Given as goal

abbrev pub invariant-loop-shard : goal.invariant-loop-shard
invariant-loop-shard l = record {
  many : length l.made.items ≡ l.shard;
  each : (s : ℕ) → s < l.shard → get_or l.made.items s no_persons ≡ new_persons l.shards (length l.rows.rows) l.bids l.prices s;
}
