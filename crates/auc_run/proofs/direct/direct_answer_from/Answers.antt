use Rattle.auc_direct.specs.Endings.{IsLimitedFrom}
use Rattle.auc_run.specs.Solutions.{watched}
use Rattle.auc_run.proofs.StartLaws.{answered, direct_solve, limited_or}
use Rattle.auc_run.proofs.direct.direct_answer_from.Goals as goal

pub returns-clause-from : goal.returns-clause-from
returns-clause-from g c =
    let watch = watched (g.V.Watch.has_stopped c.solve_direct_watched_from.new.watch) (g.V.Watch.was_asked c.solve_direct_watched_from.new.watch) in
    let n = c.args.numbers in
    let started = c.in_ok-started.started in
    let answer = c.in_ok-answer.answer in
    let limit = rw c.as_slice-prices.ensures.value at c.in_ok-answer.ensures.limit in
    let limited = limited_or (g.V.Watch.has_stopped c.args.watch.now) watch.stopped answer (IsLimitedFrom started.problem n.bids started.prices.items answer) limit in
    answered watch n (g.R.Read.remaining c.args.reader.now) (g.Q.Read.remaining c.args.second.now) started answer (rw c.requires.direct c.in_ok-started.ensures.started)
    (direct_solve n.direct watch n started.problem started.prices.items answer c.requires.direct (c.in_ok-answer.ensures.is, (c.in_ok-answer.ensures.asked, limited)))
