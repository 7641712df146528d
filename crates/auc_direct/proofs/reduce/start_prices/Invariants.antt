use Rattle.std.proofs.Common.{◌≡◌, length}
use Rattle.std.specs.Prelude.{All}
use Rattle.auc_graph.specs.Price.{IsPrice}
use Rattle.auc_direct.proofs.reduce.start_prices.Given as goal

abbrev pub invariant-loop-object : goal.invariant-loop-object
invariant-loop-object l = record {
  many : length l.prices.items ≡ l.rows.objects;
  within : All IsPrice l.prices.items;
}
