use Rattle.std.proofs.Common.{ℕ, List, subst}
use Rattle.auc_run.specs.Claims.{IsClaimFor}
use Rattle.auc_run.proofs.StartLaws.{input_fails, prices_refused, problem_refused}
use Rattle.auc_run.proofs.start.started_of.Goals as goal

pub returns-in_err-problem-clause-started : goal.returns-in_err-problem-clause-started
returns-in_err-problem-clause-started g c =
    problem_refused c.args.direct c.args.sizes (g.R.Read.remaining c.args.reader.now) (g.Q.Read.remaining c.args.second.now) c.from_residual.result c.in_err-problem.field-0.0 c.in_err-problem.ensures.problem c.in_err-problem.ensures.memory c.from_residual.ensures.1

pub returns-in_err-bytes-clause-started : goal.returns-in_err-bytes-clause-started
returns-in_err-bytes-clause-started g c =
    input_fails c.args.direct c.args.sizes (g.R.Read.remaining c.args.reader.now) (g.Q.Read.remaining c.args.second.now) c.from_residual-in_err-bytes.result c.in_ok-problem.problem c.in_err-bytes.field-0.0 c.in_ok-problem.ensures.problem (λ e. c.in_err-bytes.ensures.many cc) c.from_residual-in_err-bytes.ensures.1

pub returns-in_err-prices-clause-started : goal.returns-in_err-prices-clause-started
returns-in_err-prices-clause-started g c =
    prices_refused c.args.direct c.args.sizes (g.R.Read.remaining c.args.reader.now) (g.Q.Read.remaining c.args.second.now) c.from_residual-in_err-prices.result c.in_ok-problem.problem c.in_ok-bytes.bytes.items c.in_ok-cert.cert c.in_err-prices.field-0.0 c.in_ok-problem.ensures.problem c.in_ok-bytes.ensures.whole
    (subst (λ (xs : List ℕ). IsClaimFor c.args.sizes.large xs c.in_ok-cert.cert) c.as_slice.ensures.value c.in_ok-cert.ensures.found) c.in_err-prices.ensures.exact c.from_residual-in_err-prices.ensures.1
