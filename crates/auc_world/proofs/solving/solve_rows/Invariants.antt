use Rattle.std.specs.Prelude.{List, ℤ, Option, unsigned_abs}
use Rattle.auc_letters.specs.Price.{IsEps}
use Rattle.auc_phases.specs.Begins.{ArePrices, Begins}
use Rattle.auc_machine.specs.Lists.{MayKeep}
use Rattle.auc_world.specs.Phases.{Stage}
use Rattle.auc_world.proofs.ChainLaws.{IsReady}
use Rattle.auc_world.proofs.solving.solve_rows.Given as goal

abbrev pub invariant-loop-bidders : goal.invariant-loop-bidders
invariant-loop-bidders l = record {
  prices : ArePrices l.rows l.prices.items;
  eps : IsEps l.eps;
  kept : MayKeep l.rows l.limits.shards l.prices.items l.bidders.items;
  ready : (start : Option (List ℤ)) → Begins l.rows start l.fn.eps l.fn.prices.items → (done : List Stage) × IsReady l.rows l.limits start done l.eps l.prices.items;
}

abbrev pub decreases-loop-bidders : goal.decreases-loop-bidders
decreases-loop-bidders l = unsigned_abs l.eps
