use Rattle.auc_dense.specs.Shortage.{AreRowsMarked}
use Rattle.auc_dense.proofs.shortage.known_objects.Given as goal

abbrev pub invariant-loop-person : goal.invariant-loop-person
invariant-loop-person l = AreRowsMarked l.table.objects l.table.costs.now l.table.stride l.gap l.flags l.person l.known.items
