use Rattle.std.proofs.Common.{◌≡◌}
use Rattle.auc_graph.specs.Assignment.{total}
use Rattle.auc_direct.specs.Endings.{IsLimited, IsLimitedFrom, IsLimitedUnless, IsOfPhases, IsOfPhasesFrom}
use Rattle.auc_market.specs.Halts.{IsHalt}
use Rattle.auc_direct.proofs.Answering.{none_asked, limited_from_unless, of_answers, phases_from}
use Rattle.auc_direct.proofs.EndingLaws.{of_halts}
use Rattle.auc_direct.proofs.solving.solve_direct_watched_from.Goals as goal

pub returns-clause-limit : goal.returns-clause-limit
returns-clause-limit g c =
    let p = c.args.problem.now in
    let rows = c.in_ok-flat.ensures in
    let r = c.in_ok-flat.flat in
    let bids = c.args.limits.now.bids in
    let start = c.args.start.now in
    let begun = c.in_ok-market.market.prices in
    let before = g.W.Watch.has_stopped c.args.watch.now in
    let after = g.W.Watch.has_stopped c.run-ended.new.watch in
    of_answers (λ a. IsLimitedUnless before after a (IsLimited p bids (total begun) a)) (λ a. IsLimitedUnless before after a (IsLimitedFrom p bids start a)) c.concluded.result
    (λ a h. limited_from_unless before after p rows.table r bids start begun rows.of rows.same c.in_ok-market.ensures.opened a h)
    (c.concluded.ensures.limit bids begun before after c.run-ended.ensures.outcome (of_halts (λ h. IsHalt r h × (after ≡ before)) (λ h. after ≡ before) c.run-ended.result (λ h x. x.1) c.run-ended.ensures.halt))

pub returns-clause-run : goal.returns-clause-run
returns-clause-run g c =
    let p = c.args.problem.now in
    let rows = c.in_ok-flat.ensures in
    let bids = c.args.limits.now.bids in
    let start = c.args.start.now in
    let begun = c.in_ok-market.market.prices in
    let before = g.W.Watch.has_stopped c.args.watch.now in
    let after = g.W.Watch.has_stopped c.run-ended.new.watch in
    of_answers (IsOfPhases p bids begun) (IsOfPhasesFrom p bids start) c.concluded.result
    (λ a h. phases_from p rows.table c.in_ok-flat.flat bids start begun rows.of rows.same c.in_ok-market.ensures.opened a h)
    (c.concluded.ensures.run bids begun before after c.run-ended.ensures.outcome)

pub returns-clause-asked : goal.returns-clause-asked
returns-clause-asked g c = c.concluded.ensures.asked (g.W.Watch.was_asked c.run-ended.new.watch) c.run-ended.ensures.asked

pub returns-in-Some-clause-asked : goal.returns-in-Some-clause-asked
returns-in-Some-clause-asked g c = none_asked (g.W.Watch.was_asked c.args.watch.now) c.args.problem.now c.in-Some.answer (rw c.in-Some.is at c.in_ok-answer.ensures.some)
