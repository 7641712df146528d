use Rattle.std.proofs.Common.{Ok, Err}
use Rattle.auc_run.specs.Jobs.{solve_by}
use Rattle.auc_run.proofs.OutcomeLaws.{solved, refused}
use Rattle.auc_run.proofs.performing.outcome_by_threads.Goals as goal

pub returns-in_err-answer-clause-outcome : goal.returns-in_err-answer-clause-outcome
returns-in_err-answer-clause-outcome g c = λ w.
    let n = c.args.numbers in
    let e = c.in_err-answer.field-0.0 in
    refused w (g.R.Read.remaining c.args.reader.now) (g.Q.Read.remaining c.args.second.now) (solve_by n) c.from_residual.result e c.from_residual.ensures.1
    (solved w (g.R.Read.remaining c.args.reader.now) (g.Q.Read.remaining c.args.second.now) n (Err e) (c.in_err-answer.ensures.solving w))

pub returns-clause-outcome : goal.returns-clause-outcome
returns-clause-outcome g c = λ w. solved w (g.R.Read.remaining c.args.reader.now) (g.Q.Read.remaining c.args.second.now) c.args.numbers (Ok c.in_ok-answer.answer) (c.in_ok-answer.ensures.solving w)
