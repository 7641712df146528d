use Rattle.std.proofs.Common.{Ok, Err}
use Rattle.auc_run.specs.declared.command.Job.TheVariants.{Check, Hall, Mail}
use Rattle.auc_run.specs.declared.command.SolveNumbers.{SolveNumbers}
use Rattle.auc_run.specs.Jobs.{solve_by}
use Rattle.auc_run.specs.Problems.{sizes_with}
use Rattle.auc_run.specs.Solutions.{watched}
use Rattle.auc_run.proofs.OutcomeLaws.{completed, judged, refused, replied, solved}
use Rattle.auc_run.proofs.performing.outcome_of.Goals as goal

pub returns-in_ok-answer-in-Solve-clause-outcome : goal.returns-in_ok-answer-in-Solve-clause-outcome
returns-in_ok-answer-in-Solve-clause-outcome g c =
    let watch = watched (g.V.Watch.has_stopped c.answer_alone.new.watch) (g.V.Watch.was_asked c.answer_alone.new.watch) in
    let n : SolveNumbers = record { workers = c.in-Solve.workers; bids = c.in-Solve.bids; audit = c.in-Solve.audit; sizes = sizes_with c.in-Solve.objects c.in-Solve.large; from = c.in-Solve.from; direct = c.in-Solve.direct } in
    rw c.in-Solve.is (solved watch (g.R.Read.remaining c.args.reader.now) (g.Q.Read.remaining c.args.second.now) n (Ok c.in_ok-answer-in-Solve.answer) c.in_ok-answer-in-Solve.ensures.solving)

pub returns-in_err-answer-in-Solve-clause-outcome : goal.returns-in_err-answer-in-Solve-clause-outcome
returns-in_err-answer-in-Solve-clause-outcome g c =
    let watch = watched (g.V.Watch.has_stopped c.answer_alone.new.watch) (g.V.Watch.was_asked c.answer_alone.new.watch) in
    let n : SolveNumbers = record { workers = c.in-Solve.workers; bids = c.in-Solve.bids; audit = c.in-Solve.audit; sizes = sizes_with c.in-Solve.objects c.in-Solve.large; from = c.in-Solve.from; direct = c.in-Solve.direct } in
    let e = c.in_err-answer-in-Solve.field-0.0 in
    rw c.in-Solve.is (refused watch (g.R.Read.remaining c.args.reader.now) (g.Q.Read.remaining c.args.second.now) (solve_by n) c.from_residual.result e c.from_residual.ensures.1
    (solved watch (g.R.Read.remaining c.args.reader.now) (g.Q.Read.remaining c.args.second.now) n (Err e) c.in_err-answer-in-Solve.ensures.solving))

pub returns-in_ok-verdict_of-in-Check-clause-outcome : goal.returns-in_ok-verdict_of-in-Check-clause-outcome
returns-in_ok-verdict_of-in-Check-clause-outcome g c =
    let watch = watched (g.V.Watch.has_stopped c.args.watch.now) (g.V.Watch.was_asked c.args.watch.now) in
    rw c.in-Check.is (judged watch (g.R.Read.remaining c.args.reader.now) (g.Q.Read.remaining c.args.second.now) (sizes_with c.in-Check.objects c.in-Check.large) (Ok c.in_ok-verdict_of-in-Check.field-0) c.in_ok-verdict_of-in-Check.ensures.verdict)

pub returns-in_err-verdict_of-in-Check-clause-outcome : goal.returns-in_err-verdict_of-in-Check-clause-outcome
returns-in_err-verdict_of-in-Check-clause-outcome g c =
    let watch = watched (g.V.Watch.has_stopped c.args.watch.now) (g.V.Watch.was_asked c.args.watch.now) in
    rw c.in-Check.is (refused watch (g.R.Read.remaining c.args.reader.now) (g.Q.Read.remaining c.args.second.now) (Check c.in-Check.objects c.in-Check.large) c.from_residual-in_err-verdict_of-in-Check.result c.in_err-verdict_of-in-Check.field-0.0 c.from_residual-in_err-verdict_of-in-Check.ensures.1
    (judged watch (g.R.Read.remaining c.args.reader.now) (g.Q.Read.remaining c.args.second.now) (sizes_with c.in-Check.objects c.in-Check.large) (Err c.in_err-verdict_of-in-Check.field-0.0) c.in_err-verdict_of-in-Check.ensures.verdict))

pub returns-in_ok-found_of-in-Hall-clause-outcome : goal.returns-in_ok-found_of-in-Hall-clause-outcome
returns-in_ok-found_of-in-Hall-clause-outcome g c =
    let watch = watched (g.V.Watch.has_stopped c.args.watch.now) (g.V.Watch.was_asked c.args.watch.now) in
    rw c.in-Hall.is (completed watch (g.R.Read.remaining c.args.reader.now) (g.Q.Read.remaining c.args.second.now) (sizes_with c.in-Hall.objects c.in-Hall.large) (Ok c.in_ok-found_of-in-Hall.field-0) c.in_ok-found_of-in-Hall.ensures.found)

pub returns-in_err-found_of-in-Hall-clause-outcome : goal.returns-in_err-found_of-in-Hall-clause-outcome
returns-in_err-found_of-in-Hall-clause-outcome g c =
    let watch = watched (g.V.Watch.has_stopped c.args.watch.now) (g.V.Watch.was_asked c.args.watch.now) in
    rw c.in-Hall.is (refused watch (g.R.Read.remaining c.args.reader.now) (g.Q.Read.remaining c.args.second.now) (Hall c.in-Hall.objects c.in-Hall.large) c.from_residual-in_err-found_of-in-Hall.result c.in_err-found_of-in-Hall.field-0.0 c.from_residual-in_err-found_of-in-Hall.ensures.1
    (completed watch (g.R.Read.remaining c.args.reader.now) (g.Q.Read.remaining c.args.second.now) (sizes_with c.in-Hall.objects c.in-Hall.large) (Err c.in_err-found_of-in-Hall.field-0.0) c.in_err-found_of-in-Hall.ensures.found))

pub returns-in_ok-replies_of-in-Mail-clause-outcome : goal.returns-in_ok-replies_of-in-Mail-clause-outcome
returns-in_ok-replies_of-in-Mail-clause-outcome g c =
    let watch = watched (g.V.Watch.has_stopped c.args.watch.now) (g.V.Watch.was_asked c.args.watch.now) in
    rw c.in-Mail.is (replied watch (g.R.Read.remaining c.args.reader.now) (g.Q.Read.remaining c.args.second.now) (Ok c.in_ok-replies_of-in-Mail.field-0) c.in_ok-replies_of-in-Mail.ensures)

pub returns-in_err-replies_of-in-Mail-clause-outcome : goal.returns-in_err-replies_of-in-Mail-clause-outcome
returns-in_err-replies_of-in-Mail-clause-outcome g c =
    let watch = watched (g.V.Watch.has_stopped c.args.watch.now) (g.V.Watch.was_asked c.args.watch.now) in
    rw c.in-Mail.is (refused watch (g.R.Read.remaining c.args.reader.now) (g.Q.Read.remaining c.args.second.now) Mail c.from_residual-in_err-replies_of-in-Mail.result c.in_err-replies_of-in-Mail.field-0.0 c.from_residual-in_err-replies_of-in-Mail.ensures.1
    (replied watch (g.R.Read.remaining c.args.reader.now) (g.Q.Read.remaining c.args.second.now) (Err c.in_err-replies_of-in-Mail.field-0.0) c.in_err-replies_of-in-Mail.ensures))

pub returns-in_ok-answer-in-Solve-clause-unread : goal.returns-in_ok-answer-in-Solve-clause-unread
returns-in_ok-answer-in-Solve-clause-unread g c = rw c.in-Solve.is c.in_ok-answer-in-Solve.ensures.unread
