use Rattle.auc_run.proofs.StartLaws.{by_threads, from_start, has_messages}
use Rattle.auc_run.proofs.solve.answer_in_threads.Goals as goal

pub returns-then-numbers-clause-solving : goal.returns-then-numbers-clause-solving
returns-then-numbers-clause-solving g c = λ w.
    from_start w c.args.numbers (g.R.Read.remaining c.args.reader.now) (g.Q.Read.remaining c.args.second.now) c.answer_by_threads_from.result c.if-numbers.true (c.answer_by_threads_from.ensures.from w)

pub returns-clause-solving : goal.returns-clause-solving
returns-clause-solving g c = λ w.
    let n = c.args.numbers in
    by_threads w n (g.R.Read.remaining c.args.reader.now) (g.Q.Read.remaining c.args.second.now) c.answer_by_threads.result c.if-numbers.false (has_messages n.direct n.workers c.requires.range.alone c.requires.some) c.requires.some c.answer_by_threads.ensures
