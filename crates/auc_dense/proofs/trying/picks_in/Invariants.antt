use Rattle.auc_dense.specs.Tried.{ArePicks}
use Rattle.auc_dense.proofs.trying.picks_in.Given as goal

abbrev pub invariant-loop-person : goal.invariant-loop-person
invariant-loop-person l = ArePicks l.table.objects l.table.costs.now l.table.stride l.gap l.person l.picks.items
