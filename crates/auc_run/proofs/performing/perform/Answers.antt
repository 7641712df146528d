use Rattle.auc_run.specs.Solutions.{watched}
use Rattle.auc_run.proofs.performing.perform.Goals as goal

pub returns-then-workers-gt0-clause-ended : goal.returns-then-workers-gt0-clause-ended
returns-then-workers-gt0-clause-ended g c =
    let watch = watched (g.V.Watch.has_stopped c.args.watch.now) (g.V.Watch.was_asked c.args.watch.now) in
    record {
      outcome = c.outcome_by_threads-outcome.result;
      is = rw c.in-Solve.is (c.outcome_by_threads-outcome.ensures.outcome watch);
      ends = record { whole = c.tell.ensures.whole; cut = c.tell.ensures.cut; refusal = c.tell.ensures.refusal; reason = c.tell.ensures.reason };
    }
