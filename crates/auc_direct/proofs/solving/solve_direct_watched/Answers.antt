use Rattle.auc_direct.specs.Endings.{IsOfFirstPhases, IsOfPhases}
use Rattle.auc_market.specs.Halts.{IsHalt}
use Rattle.std.proofs.Common.{◌≡◌}
use Rattle.auc_direct.proofs.Answering.{first_limited, first_prices, none_asked, of_answers, of_first}
use Rattle.auc_direct.proofs.EndingLaws.{of_halts}
use Rattle.auc_direct.proofs.solving.solve_direct_watched.Goals as goal

pub returns-clause-limit : goal.returns-clause-limit
returns-clause-limit g c =
    let p = c.args.problem.now in
    let bids = c.args.limits.now.bids in
    let outcome = c.run_first-ended.ensures.outcome in
    let before = g.W.Watch.has_stopped c.args.watch.now in
    let after = g.W.Watch.has_stopped c.run_first-ended.new.watch in
    let going = of_halts (λ h. IsHalt c.in_ok-flat.flat h × (after ≡ before)) (λ h. after ≡ before) c.run_first-ended.result (λ h x. x.1) c.run_first-ended.ensures.halt in
    first_limited before after p bids outcome.0 c.concluded.result outcome.1.within (c.concluded.ensures.limit bids outcome.0 before after outcome.2 going) (c.concluded.ensures.ceiling c.run_first-ended.ensures.ceiling)

pub returns-clause-run : goal.returns-clause-run
returns-clause-run g c =
    let p = c.args.problem.now in
    let bids = c.args.limits.now.bids in
    let outcome = c.run_first-ended.ensures.outcome in
    let before = g.W.Watch.has_stopped c.args.watch.now in
    let after = g.W.Watch.has_stopped c.run_first-ended.new.watch in
    let first = first_prices p c.in_ok-flat.flat outcome.0 c.in_ok-flat.ensures outcome.1 in
    of_answers (IsOfPhases p bids outcome.0) (IsOfFirstPhases p bids) c.concluded.result (λ a h. of_first p bids outcome.0 a first h) (c.concluded.ensures.run bids outcome.0 before after outcome.2)

pub returns-clause-asked : goal.returns-clause-asked
returns-clause-asked g c = c.concluded.ensures.asked (g.W.Watch.was_asked c.run_first-ended.new.watch) c.run_first-ended.ensures.asked

pub returns-in-Some-clause-asked : goal.returns-in-Some-clause-asked
returns-in-Some-clause-asked g c = none_asked (g.W.Watch.was_asked c.args.watch.now) c.args.problem.now c.in-Some.answer (rw c.in-Some.is at c.in_ok-answer.ensures.some)
