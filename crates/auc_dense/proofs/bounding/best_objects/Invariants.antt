use Rattle.std.proofs.Common.{◌≡◌, length}
use Rattle.auc_dense.proofs.bounding.best_objects.Given as goal

abbrev pub invariant-loop-person : goal.invariant-loop-person
invariant-loop-person l = length l.best.items ≡ l.person
