use Rattle.std.proofs.Common.{ℕ, ◌<◌, ◌≡◌, length}
use Rattle.auc_graph.specs.Dual.{price_at}
use Rattle.auc_graph.specs.Price.{IsPrice}
use Rattle.auc_direct.proofs.adopt.scaled_prices.Given as goal

abbrev pub invariant-loop-object : goal.invariant-loop-object
invariant-loop-object l = record {
  many : length l.prices.items ≡ l.rows.objects;
  within : (k : ℕ) → k < l.object → IsPrice (price_at l.prices.items k);
}
