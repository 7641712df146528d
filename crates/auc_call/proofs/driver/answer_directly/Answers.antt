use Rattle.std.proofs.Common.{rules, sym, ◌∙◌, ◌≢◌, []}
use Rattle.auc_call.proofs.LimitedLaws.{limited_first, limited_from}
use Rattle.auc_call.proofs.driver.answer_directly.Goals as goal

pub returns-then-is_empty-clause-run : goal.returns-then-is_empty-clause-run
returns-then-is_empty-clause-run g c =
    let none = sym c.is_empty.ensures ∙ c.if-is_empty.true in
    limited_first c.args.problem.now c.args.run.now.start.now c.args.run.now.bids (g.W.Watch.has_stopped c.args.run.now.watch) (g.W.Watch.has_stopped c.solve_direct_watched.new.watch) (g.W.Watch.was_asked c.solve_direct_watched.new.watch) c.solve_direct_watched.result none c.solve_direct_watched.ensures.limit c.solve_direct_watched.ensures.asked

pub returns-clause-run : goal.returns-clause-run
returns-clause-run g c =
    let some : c.args.run.now.start.now ≢ [] = search rules in
    limited_from c.args.problem.now c.args.run.now.start.now c.args.run.now.bids (g.W.Watch.has_stopped c.args.run.now.watch) (g.W.Watch.has_stopped c.solve_direct_watched_from.new.watch) (g.W.Watch.was_asked c.solve_direct_watched_from.new.watch) c.solve_direct_watched_from.result some c.solve_direct_watched_from.ensures.limit c.solve_direct_watched_from.ensures.asked
