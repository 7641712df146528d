use Rattle.clap.specs.Words.{found_of}
use Rattle.auc_run.specs.declared.command.Job.TheVariants.{Check}
use Rattle.auction.proofs.AskLaws.{with_objects, without_objects}
use Rattle.auction.proofs.words.check_of.Goals as goal

pub returns-in_err-objects-clause-check : goal.returns-in_err-objects-clause-check
returns-in_err-objects-clause-check c = without_objects (found_of c.args.matches.now) Check _ c.is_given-large.ensures c.from_residual.result _ _ _ c.from_residual.ensures.1 c.in_err-objects.ensures.refused

pub returns-clause-check : goal.returns-clause-check
returns-clause-check c = with_objects (found_of c.args.matches.now) Check _ c.is_given-large.ensures c.job_of_two.result _ _ _ c.in_ok-objects.ensures.given c.job_of_two.ensures.names
