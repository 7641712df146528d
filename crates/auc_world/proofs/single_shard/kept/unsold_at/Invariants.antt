use Rattle.std.proofs.Common.{◌≡◌, None, map, replicate, take}
use Rattle.auc_world.specs.Lots.{holder_in, price_in}
use Rattle.auc_world.proofs.single_shard.kept.unsold_at.Given as goal

abbrev pub invariant-loop-price : goal.invariant-loop-price
invariant-loop-price l = record {
  prices : map price_in l.lots.items ≡ take l.price-index l.prices;
  holders : map holder_in l.lots.items ≡ replicate l.price-index None;
}
