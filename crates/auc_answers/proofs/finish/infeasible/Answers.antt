use Rattle.auc_answers.proofs.HallCertificates.{hall_set_certified}
use Rattle.auc_answers.proofs.finish.infeasible.Goals as goal

pub returns-in-None : goal.returns-in-None
returns-in-None c = (rw c.in-None.is at c.in_ok-cert.ensures.none) (hall_set_certified c.args.problem.now c.args.persons c.args.objects c.arcs.ensures.problem c.requires)
