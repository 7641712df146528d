use Rattle.auc_market.specs.Position.{state_at}
use Rattle.auc_direct.proofs.Running.{outcome_before, outcome_found, outcome_of_one, outcome_of_stop, run_begun}
use Rattle.auc_direct.proofs.run.run_wide.Goals as goal

-- a full table was adopted
pub returns-in-Adopted-clause-outcome : goal.returns-in-Adopted-clause-outcome
returns-in-Adopted-clause-outcome g c =
    let found = rw c.in-Adopted.is at c.in_ok-holdings.ensures.searched in
    rw (c.sold.ensures.ending, c.sold.ensures.holdings) (outcome_found c.args.rows.now c.args.bids (g.W.Watch.has_stopped c.args.watch.now) (g.W.Watch.has_stopped c.search_table.new.watch) c.in-Adopted.holdings (state_at c.args.market) found.1 found.0)

-- the watch has said no within the search
pub returns-in-Ended-clause-outcome : goal.returns-in-Ended-clause-outcome
returns-in-Ended-clause-outcome g c =
    let told = rw c.in-Ended.is at c.in_ok-holdings.ensures.searched in
    rw (c.stopped.ensures.ending) (outcome_of_stop c.args.rows.now c.args.bids c.args.market.prices (g.W.Watch.has_stopped c.args.watch.now) (g.W.Watch.has_stopped c.search_table.new.watch) c.args.market c.stopped.result.holdings.prices.items c.stopped.result.holdings.holders.items c.stopped.result.holdings.owns.items c.requires.begins.table told.0 c.stopped.ensures.law (run_begun c.args.rows.now c.args.bids (state_at c.args.market)) c.stopped.ensures.handed)

pub returns-clause-outcome : goal.returns-clause-outcome
returns-clause-outcome g c =
    let e = c.requires.begins in
    let before = g.W.Watch.has_stopped c.args.watch.now in
    let searched = rw c.in-Nothing.is at c.in_ok-holdings.ensures.searched in
    let one = outcome_of_one c.args.rows.now c.args.bids (g.W.Watch.has_stopped c.search_table.new.watch) (g.W.Watch.has_stopped c.play.new.watch) c.in_ok-ending.ending c.args.market c.play.new.self c.into_holdings.result.prices.items c.into_holdings.result.holders.items c.into_holdings.result.owns.items e.table e.eps c.law.ensures c.in_ok-ending.ensures.played c.into_holdings.ensures in
    outcome_before c.args.rows.now c.args.bids c.args.market.prices before (g.W.Watch.has_stopped c.search_table.new.watch) (g.W.Watch.has_stopped c.play.new.watch) c.in_ok-ending.ending c.into_holdings.result.prices.items c.into_holdings.result.holders.items c.into_holdings.result.owns.items searched one
