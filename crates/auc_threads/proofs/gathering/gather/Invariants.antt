use Rattle.std.proofs.Common.{ℕ, ◌≡◌, ◌<◌, ◌≤◌, ◌%◌, None, length, get_or, vec_capacity}
use Rattle.std.specs.Prelude.{pos, All}
use Rattle.auc_graph.specs.Price.{IsPrice}
use Rattle.auc_threads.specs.Gathering.{Gathers}
use Rattle.auc_threads.proofs.gathering.gather.Given as goal

abbrev pub invariant-loop-object : goal.invariant-loop-object
invariant-loop-object g l = record {
  holders : length l.holders.items ≡ l.object;
  prices : length l.prices.items ≡ l.object;
  holders_room : l.objects ≤ vec_capacity l.holders;
  prices_room : l.objects ≤ vec_capacity l.prices;
  range : All IsPrice l.prices.items;
  each : (j : ℕ) (d : _) → j < l.object → Gathers (get_or l.works (j % l.shards) d).shard j (get_or l.prices.items j (pos 0)) (get_or l.holders.items j None);
}
