use Rattle.auc_run.proofs.StartLaws.{answered, by_messages_from, without_threads_from}
use Rattle.auc_run.proofs.solve.answer_from.Goals as goal

pub returns-clause-from : goal.returns-clause-from
returns-clause-from g c = λ w.
    let n = c.args.numbers in
    let p = c.in_ok-started.started.problem in
    let start = c.in_ok-started.started.prices.items in
    let answer = c.in_ok-answer.answer in
    let run = rw (c.serial_limits-limits.ensures, c.as_slice-prices.ensures.value) at c.in_ok-answer.ensures.run in
    answered w n (g.R.Read.remaining c.args.reader.now) (g.Q.Read.remaining c.args.second.now) c.in_ok-started.started answer (rw c.requires.messages c.in_ok-started.ensures.started)
    (by_messages_from n.direct w n p start answer c.requires.messages
    (without_threads_from n.workers n p start answer c.requires.plain c.in_ok-answer.ensures.is run))
