use Rattle.auc_market.proofs.Shortlists.{kept_none}
use Rattle.auc_market.proofs.lists.Lists.new.Goals as goal

pub returns : goal.returns
returns c = λ prices. kept_none c.args.rows.now prices c.loop.lists.items c.loop.invariant
