use Rattle.auc_direct.specs.Endings.{IsLimitedFirst}
use Rattle.auc_run.proofs.StartLaws.{limited_or}
use Rattle.auc_run.proofs.direct.direct_answer_of.Goals as goal

pub returns : goal.returns
returns g c =
    let p = c.in_ok-problem.problem in
    let read = c.in_ok-problem.ensures.problem in
    let answer = c.in_ok-answer.answer in
    let is = c.in_ok-answer.ensures in
    let limited = limited_or (g.V.Watch.has_stopped c.args.watch.now) (g.V.Watch.has_stopped c.solve_direct_watched.new.watch) answer (IsLimitedFirst p c.args.numbers.bids answer) is.limit in
    record { file = read.file; known = read.known; borne = (p, read.borne, is.is, (is.asked, limited)) }
