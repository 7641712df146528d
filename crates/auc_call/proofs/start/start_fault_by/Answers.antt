use Rattle.std.proofs.Common.{sym, subst}
use Rattle.auc_call.specs.Start.{CanStart}
use Rattle.auc_call.specs.declared.driver.Driver.{Driver}
use Rattle.auc_call.proofs.start.start_fault_by.Goals as goal

pub returns-in-Direct-clause-start : goal.returns-in-Direct-clause-start
returns-in-Direct-clause-start c = λ none some. subst (λ (d : Driver). CanStart d c.args.problem.now c.args.start.now) (sym c.in-Direct.is) (c.prices_fault.ensures.start none c.args.problem.now (sym c.objects.ensures.objects))
