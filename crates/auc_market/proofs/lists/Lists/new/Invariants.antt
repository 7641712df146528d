use Rattle.std.specs.Prelude.{All}
use Rattle.auc_market.specs.Shortlist.{SaysNothing}
use Rattle.auc_market.proofs.lists.Lists.new.Given as goal

abbrev pub invariant-loop : goal.invariant-loop
invariant-loop l = All SaysNothing l.lists.items
