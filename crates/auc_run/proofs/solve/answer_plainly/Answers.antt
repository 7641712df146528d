use Rattle.auc_run.proofs.StartLaws.{from_start, plainly}
use Rattle.auc_run.proofs.solve.answer_plainly.Goals as goal

pub returns-then-numbers-clause-solving : goal.returns-then-numbers-clause-solving
returns-then-numbers-clause-solving g c = λ w. from_start w c.args.numbers (g.R.Read.remaining c.args.reader.now) (g.Q.Read.remaining c.args.second.now) c.answer_from.result c.if-numbers.true (c.answer_from.ensures.from w)

pub returns-clause-solving : goal.returns-clause-solving
returns-clause-solving g c = λ w.
    plainly w c.args.numbers (g.R.Read.remaining c.args.reader.now) (g.Q.Read.remaining c.args.second.now) c.answer_of.result c.if-numbers.false c.requires.messages c.requires.plain c.answer_of.ensures
