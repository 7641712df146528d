use Rattle.auc_dense.specs.Tried.{AreBest}
use Rattle.auc_dense.proofs.trying.best_picks.Given as goal

abbrev pub invariant-loop-person : goal.invariant-loop-person
invariant-loop-person l = AreBest l.table.objects l.table.costs.now l.table.stride l.gap l.prices l.person l.picks.items
