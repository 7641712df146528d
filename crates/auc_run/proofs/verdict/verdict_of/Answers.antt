use Rattle.auc_run.proofs.VerdictLaws.{input_fails, not_judged}
use Rattle.std.proofs.Common.{rules}
use Rattle.auc_run.proofs.verdict.verdict_of.Goals as goal
use Rattle.auc_run.proofs.verdict.verdict_of.Goals.{in-Optimal-1, in-Infeasible-1, in-Bracket-1}

pub returns-in_err-problem-clause-verdict : goal.returns-in_err-problem-clause-verdict
returns-in_err-problem-clause-verdict g c =
    not_judged c.args.sizes (g.R.Read.remaining c.args.reader.now) (g.Q.Read.remaining c.args.second.now) c.from_residual.result c.in_err-problem.field-0.0 c.in_err-problem.ensures.problem c.in_err-problem.ensures.memory c.from_residual.ensures.1

pub returns-in_err-bytes-clause-verdict : goal.returns-in_err-bytes-clause-verdict
returns-in_err-bytes-clause-verdict g c =
    input_fails c.args.sizes (g.R.Read.remaining c.args.reader.now) (g.Q.Read.remaining c.args.second.now) c.from_residual-in_err-bytes.result c.in_ok-problem.problem c.in_err-bytes.field-0.0 c.in_ok-problem.ensures.problem (λ e. c.in_err-bytes.ensures.many cc) c.from_residual-in_err-bytes.ensures.1

pub returns-clause-verdict : goal.returns-clause-verdict
returns-clause-verdict g c = elim c.match-cert.branch [ in-Optimal-1 w ↦ search rules | in-Infeasible-1 w ↦ search rules | in-Bracket-1 w ↦ search rules ]
