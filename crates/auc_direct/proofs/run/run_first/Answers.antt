use Rattle.std.proofs.Common.{pos, replicate, rules}
use Rattle.auc_direct.proofs.Running.{zero_start}
use Rattle.auc_direct.proofs.run.run_first.Goals as goal

pub returns-in_err-market-clause-outcome : goal.returns-in_err-market-clause-outcome
returns-in_err-market-clause-outcome g c = (replicate c.args.rows.now.objects (pos 0), zero_start c.args.rows.now, search rules)

pub returns-in_err-outcome-clause-outcome : goal.returns-in_err-outcome-clause-outcome
returns-in_err-outcome-clause-outcome g c = (replicate c.args.rows.now.objects (pos 0), zero_start c.args.rows.now, search rules)

pub returns-then-ne-clause-outcome : goal.returns-then-ne-clause-outcome
returns-then-ne-clause-outcome g c = (c.in_ok-market.market.prices, c.in_ok-market.ensures.start, c.in_ok-outcome.ensures.outcome)
