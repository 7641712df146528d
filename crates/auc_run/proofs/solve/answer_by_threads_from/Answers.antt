use Rattle.auc_run.proofs.StartLaws.{answered, by_messages_from, has_messages, in_threads_from, unstarted}
use Rattle.auc_run.proofs.solve.answer_by_threads_from.Goals as goal

pub returns-clause-from : goal.returns-clause-from
returns-clause-from g c = λ w.
    let n = c.args.numbers in
    let messages = has_messages n.direct n.workers c.requires.range.alone c.requires.some in
    let p = c.in_ok-started.started.problem in
    let start = c.in_ok-started.started.prices.items in
    let solved = c.in_ok-solved.solved in
    let run = rw (c.thread_limits-limits.ensures, c.as_slice-prices.ensures.value) at c.in_ok-solved.ensures.run in
    answered w n (g.R.Read.remaining c.args.reader.now) (g.Q.Read.remaining c.args.second.now) c.in_ok-started.started solved.answer (rw messages c.in_ok-started.ensures.started)
    (by_messages_from n.direct w n p start solved.answer messages
    (in_threads_from n.workers n p start solved.phases.items solved.answer c.requires.some c.in_ok-solved.ensures.answer run))

pub returns-in_err-started-clause-from : goal.returns-in_err-started-clause-from
returns-in_err-started-clause-from g c = λ w.
    let n = c.args.numbers in
    let messages = has_messages n.direct n.workers c.requires.range.alone c.requires.some in
    unstarted w n (g.R.Read.remaining c.args.reader.now) (g.Q.Read.remaining c.args.second.now) c.from_residual.result c.in_err-started.field-0.0 (rw messages c.in_err-started.ensures.started) c.from_residual.ensures.1
