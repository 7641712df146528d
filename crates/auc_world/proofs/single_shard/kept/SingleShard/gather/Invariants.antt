use Rattle.std.proofs.Common.{◌≡◌, map, take}
use Rattle.auc_world.specs.Lots.{holder_in, price_in}
use Rattle.auc_world.proofs.single_shard.kept.SingleShard.gather.Given as goal

abbrev pub invariant-loop-lot : goal.invariant-loop-lot
invariant-loop-lot l = record {
  holders : l.holders.items ≡ map holder_in (take l.lot-index l.lot-items);
  prices : l.prices.items ≡ map price_in (take l.lot-index l.lot-items);
}
