use Rattle.std.proofs.Common.{◌≡◌, ◌*◌, ◌+◌, ◌^◌, length, map, take, pos, neg_ℤ, ◌≤ℤ◌, ◌-ℤ◌}
use Rattle.auc_graph.specs.Assignment.{total}
use Rattle.auc_dense.specs.Tried.{pick_worth}
use Rattle.auc_dense.proofs.bounding.lower_of.Given as goal

abbrev pub invariant-loop-pick : goal.invariant-loop-pick
invariant-loop-pick l = record {
  so_far : l.lower ≡ total (take l.pick-index (map (pick_worth l.prices) l.bests));
  low : neg_ℤ (pos (2 ^ 64 * l.pick-index)) ≤ℤ l.lower;
  high : l.lower ≤ℤ pos (2 ^ 64 * l.pick-index);
}

abbrev pub invariant-loop-price : goal.invariant-loop-price
invariant-loop-price l = record {
  so_far : l.lower ≡ total (map (pick_worth l.prices) l.bests) -ℤ total (take l.price-index l.prices);
  low : neg_ℤ (pos (2 ^ 64 * (length l.bests + l.price-index))) ≤ℤ l.lower;
  high : l.lower ≤ℤ pos (2 ^ 64 * (length l.bests + l.price-index));
}
