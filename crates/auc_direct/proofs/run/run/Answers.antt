use Rattle.std.proofs.Common.{refl, ◌∙◌}
use Rattle.auc_market.specs.Position.{state_at}
use Rattle.auc_market.proofs.PhasesLaws.{one_phase}
use Rattle.auc_direct.proofs.Running.{outcome_found, outcome_of, outcome_of_one, outcome_of_stop}
use Rattle.auc_direct.proofs.run.run.Goals as goal

-- the phase that was tried is the whole run
pub returns-in-Some-clause-outcome : goal.returns-in-Some-clause-outcome
returns-in-Some-clause-outcome g c =
    let e = c.requires.begins in
    outcome_of_one c.args.rows.now c.args.bids (g.W.Watch.has_stopped c.args.watch.now) (g.W.Watch.has_stopped c.try_phase.new.watch) c.in-Some.ending c.args.market c.try_phase.new.self c.into_holdings.result.prices.items c.into_holdings.result.holders.items c.into_holdings.result.owns.items e.table e.eps c.law.ensures (rw c.in-Some.is at c.in_ok-ending.ensures.played) c.into_holdings.ensures

-- a full table was adopted after it
pub returns-in-Adopted-clause-outcome : goal.returns-in-Adopted-clause-outcome
returns-in-Adopted-clause-outcome g c =
    let going = rw c.in_default.is at c.in_ok-ending.ensures.going in
    let found = rw c.in-Adopted.is at c.in_ok-holdings.ensures.searched in
    rw (c.sold.ensures.ending, c.sold.ensures.holdings) (outcome_found c.args.rows.now c.args.bids (g.W.Watch.has_stopped c.args.watch.now) (g.W.Watch.has_stopped c.search_table.new.watch) c.in-Adopted.holdings (state_at c.args.market) (found.1 ∙ going) found.0)

-- the watch has said no within the search
pub returns-in-Ended-clause-outcome : goal.returns-in-Ended-clause-outcome
returns-in-Ended-clause-outcome g c =
    let e = c.requires.begins in
    let told = rw c.in-Ended.is at c.in_ok-holdings.ensures.searched in
    let tried = rw c.in_default.is at c.in_ok-ending.ensures.tried in
    let phases = one_phase c.args.rows.now c.args.bids (state_at c.args.market) (state_at c.try_phase.new.self) (rw e.table at tried.phase) in
    rw (c.stopped.ensures.ending) (outcome_of_stop c.args.rows.now c.args.bids c.args.market.prices (g.W.Watch.has_stopped c.args.watch.now) (g.W.Watch.has_stopped c.search_table.new.watch) c.try_phase.new.self c.stopped.result.holdings.prices.items c.stopped.result.holdings.holders.items c.stopped.result.holdings.owns.items (tried.table ∙ e.table) told.0 c.stopped.ensures.law (record { first = state_at c.args.market; begun_are = refl; phases = phases }) c.stopped.ensures.handed)

-- all phases after it
pub returns-clause-outcome : goal.returns-clause-outcome
returns-clause-outcome g c =
    let tried = rw c.in_default.is at c.in_ok-ending.ensures.tried in
    let going = rw c.in_default.is at c.in_ok-ending.ensures.going in
    let searched = rw c.in-Nothing.is at c.in_ok-holdings.ensures.searched in
    outcome_of c.args.rows.now c.args.bids (g.W.Watch.has_stopped c.args.watch.now) (g.W.Watch.has_stopped c.search_table.new.watch) (g.W.Watch.has_stopped c.play_square.new.watch) c.in_ok-ending-2.ending c.args.market c.try_phase.new.self c.play_square.new.market c.into_holdings-2.result.prices.items c.into_holdings-2.result.holders.items c.into_holdings-2.result.owns.items c.requires.begins.table (searched ∙ going) tried c.in_ok-ending-2.ensures.over c.into_holdings-2.ensures

-- ---- who watches was asked

pub returns-in-Some-clause-asked : goal.returns-in-Some-clause-asked
returns-in-Some-clause-asked g c = rw c.in-Some.is at c.in_ok-ending.ensures.asked

pub returns-in-Adopted-clause-asked : goal.returns-in-Adopted-clause-asked
returns-in-Adopted-clause-asked g c = (rw c.in-Adopted.is at c.in_ok-holdings.ensures.searched).2

pub returns-in-Ended-clause-asked : goal.returns-in-Ended-clause-asked
returns-in-Ended-clause-asked g c = (rw c.in-Ended.is at c.in_ok-holdings.ensures.searched).1

pub returns-clause-asked : goal.returns-clause-asked
returns-clause-asked g c = c.in_ok-ending-2.ensures.asked
