use Rattle.std.proofs.Common.{Ok, Err}
use Rattle.auc_run.proofs.ProblemLaws.{read_in, refused_in}
use Rattle.auc_run.proofs.problem.problem_of.Goals as goal

pub returns-in_err-problem-clause-problem : goal.returns-in_err-problem-clause-problem
returns-in_err-problem-clause-problem g c =
    let told = c.in_err-problem.ensures in
    refused_in c.args.sizes (g.R.Read.remaining c.args.reader.now) c.from_residual.result c.in_err-problem.field-0.0 c.from_residual.ensures.1
    (read_in c.limits_of.result (g.R.Read.remaining c.args.reader.now) (g.R.Read.remaining c.read_arcs_from.new.reader) told.0 c.args.sizes c.limits_of.ensures.are told.1 (Err c.in_err-problem.field-0.0) told.2)

pub returns-clause-problem : goal.returns-clause-problem
returns-clause-problem g c =
    let told = c.in_ok-problem.ensures in
    read_in c.limits_of.result (g.R.Read.remaining c.args.reader.now) (g.R.Read.remaining c.read_arcs_from.new.reader) told.0 c.args.sizes c.limits_of.ensures.are told.1 (Ok c.in_ok-problem.problem) told.2
