use Rattle.auc_run.specs.Solutions.{watched}
use Rattle.auc_run.proofs.StartLaws.{directly, from_start, is_direct}
use Rattle.auc_run.proofs.direct.answer_alone.Goals as goal

pub returns-then-numbers-clause-solving : goal.returns-then-numbers-clause-solving
returns-then-numbers-clause-solving g c =
    from_start (watched (g.V.Watch.has_stopped c.direct_answer_from.new.watch) (g.V.Watch.was_asked c.direct_answer_from.new.watch)) c.args.numbers (g.R.Read.remaining c.args.reader.now) (g.Q.Read.remaining c.args.second.now) c.direct_answer_from.result c.if-numbers.true c.direct_answer_from.ensures.from

pub returns-clause-solving : goal.returns-clause-solving
returns-clause-solving g c =
    directly (watched (g.V.Watch.has_stopped c.direct_answer_of.new.watch) (g.V.Watch.was_asked c.direct_answer_of.new.watch)) c.args.numbers (g.R.Read.remaining c.args.reader.now) (g.Q.Read.remaining c.args.second.now) c.direct_answer_of.result c.if-numbers.false (is_direct c.args.numbers.direct c.if-not-numbers.false) c.direct_answer_of.ensures
