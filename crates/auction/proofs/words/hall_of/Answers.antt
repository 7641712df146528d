use Rattle.clap.specs.Words.{found_of}
use Rattle.auc_run.specs.declared.command.Job.TheVariants.{Hall}
use Rattle.auction.proofs.AskLaws.{with_objects, without_objects}
use Rattle.auction.proofs.words.hall_of.Goals as goal

pub returns-in_err-objects-clause-hall : goal.returns-in_err-objects-clause-hall
returns-in_err-objects-clause-hall c = without_objects (found_of c.args.matches.now) Hall _ c.is_given-large.ensures c.from_residual.result _ _ _ c.from_residual.ensures.1 c.in_err-objects.ensures.refused

pub returns-clause-hall : goal.returns-clause-hall
returns-clause-hall c = with_objects (found_of c.args.matches.now) Hall _ c.is_given-large.ensures c.job_of.result _ _ _ c.in_ok-objects.ensures.given c.job_of.ensures.names
