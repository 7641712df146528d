use Rattle.clap.specs.Words.{found_of}
use Rattle.auction.proofs.AskLaws.{by_rows, watched_by_rows, with_files, without_job, wrong_by_rows}
use Rattle.auction.proofs.words.solve_of.Goals as goal

pub returns-in_err-solve-clause-solve : goal.returns-in_err-solve-clause-solve
returns-in_err-solve-clause-solve c = without_job c.from_residual.result _ _ c.from_residual.ensures.1 (wrong_by_rows (found_of c.args.matches.now) _ c.in_err-solve.ensures.solve)

pub returns-clause-solve : goal.returns-clause-solve
returns-clause-solve c =
    let asked = c.in_ok-solve.solve in
    let found = found_of c.args.matches.now in
    with_files c.job_of_two.result _ asked.job asked.watching (by_rows found asked.job c.in_ok-solve.ensures.solve.0) (watched_by_rows found asked.watching c.in_ok-solve.ensures.solve.1) c.job_of_two.ensures.names c.job_of_two.ensures.watching
