use Rattle.auc_call.specs.Memory.{memory}
use Rattle.auc_call.proofs.DriverLaws.{solved_by}
use Rattle.auc_call.proofs.solving.solve_problem.Goals as goal

pub returns-clause-run : goal.returns-clause-run
returns-clause-run g c =
    solved_by c.args.driver c.args.problem.now c.args.run.now.start.now c.args.run.now.bids (g.W.Watch.has_stopped c.answer_of.new.run.watch) (g.W.Watch.was_asked c.answer_of.new.run.watch) c.in_ok-answer.answer (memory c.hand_out.new.choice c.hand_out.new.prices c.hand_out.new.set) c.hand_out.result c.in_ok-answer.ensures.is c.in_ok-answer.ensures.run c.hand_out.ensures.written
