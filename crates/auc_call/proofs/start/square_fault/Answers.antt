use Rattle.std.proofs.Common.{sym, ◌∙◌}
use Rattle.auc_call.proofs.start.square_fault.Goals as goal

pub returns-clause-start : goal.returns-clause-start
returns-clause-start c = λ none.
    let fit = c.prices_fault.ensures.start none c.args.problem.now (sym c.objects-2.ensures.objects) in
    record {
      square = sym c.objects.ensures.objects ∙ c.if-objects-persons.false ∙ c.persons.ensures.persons;
      each = fit.each;
      within = fit.within;
    }
