use Rattle.std.proofs.Common.{sym, ◌∙◌}
use Rattle.auc_claim.proofs.HallLaws.{hall_set_is}
use Rattle.auc_claim.proofs.checking.check_infeasible.Goals as goal

pub returns-clause-allowed : goal.returns-clause-allowed
returns-clause-allowed c = λ _. hall_set_is c.args.problem.now c.args.persons.now c.args.objects.now c.requires (sym c.in_ok-is_hall.ensures ∙ c.if-not-branch.false)
