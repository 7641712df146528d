use Rattle.std.proofs.Common.{sym, ◌∙◌, arith}
use Rattle.auc_call.proofs.StartLaws.{none_outside}
use Rattle.auc_call.proofs.start.prices_fault.Goals as goal

pub returns-in-None-clause-start : goal.returns-in-None-clause-start
returns-in-None-clause-start c = λ none p same. record {
  each = omega (arith, c.if-start-objects.false, same);
  within = none_outside c.args.start.now (sym c.in-None.is ∙ c.outside.ensures);
}
