use Rattle.std.proofs.Common.{◌≡◌, None, map, replicate, take}
use Rattle.auc_objects.specs.PackedSales.{holder_in, price_in}
use Rattle.auc_objects.proofs.shard.unsold_at.Given as goal

abbrev pub invariant-loop-price : goal.invariant-loop-price
invariant-loop-price l = record {
  prices : map price_in l.sales.items ≡ take l.price-index l.prices;
  holders : map holder_in l.sales.items ≡ replicate l.price-index None;
}
