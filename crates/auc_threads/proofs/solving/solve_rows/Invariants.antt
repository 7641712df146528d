use Rattle.std.specs.Prelude.{unsigned_abs}
use Rattle.auc_letters.specs.Price.{IsEps}
use Rattle.auc_phases.specs.Begins.{ArePrices}
use Rattle.auc_threads.proofs.SolvedLaws.{IsReady}
use Rattle.auc_threads.proofs.solving.solve_rows.Given as goal

abbrev pub invariant-loop-prices : goal.invariant-loop-prices
invariant-loop-prices g l = record {
  prices : ArePrices l.setting.rows.now l.prices.items;
  eps : IsEps l.eps;
  ready : IsReady l.setting.problem.now l.setting.rows.now l.setting.limits.now l.fn.eps l.fn.prices.items l.phases.items l.eps l.prices.items;
}

abbrev pub decreases-loop-prices : goal.decreases-loop-prices
decreases-loop-prices g l = unsigned_abs l.eps
