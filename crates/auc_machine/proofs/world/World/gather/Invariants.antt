use Rattle.std.proofs.Common.{ℕ, pos, ◌≡◌, ◌<◌, None, length, get_or}
use Rattle.std.specs.Prelude.{All}
use Rattle.auc_graph.specs.Price.{IsPrice}
use Rattle.auc_machine.specs.Parts.{world_of}
use Rattle.auc_machine.proofs.world.World.gather.Given as goal

abbrev pub invariant-loop-object : goal.invariant-loop-object
invariant-loop-object l = record {
  holders_are : length l.holders.items ≡ l.object;
  prices_are : length l.prices.items ≡ l.object;
  holder_is : (j : ℕ) → j < l.object → get_or l.holders.items j None ≡ (world_of l.self).holder j;
  price_is : (j : ℕ) → j < l.object → get_or l.prices.items j (pos 0) ≡ (world_of l.self).price j;
  range : All IsPrice l.prices.items;
}
