use Rattle.std.proofs.Common.{length}
use Rattle.auc_dense.proofs.TableLaws.{IsBehind}
use Rattle.auc_dense.proofs.table.place_behind.Given as goal

abbrev pub invariant-loop-object : goal.invariant-loop-object
invariant-loop-object l = IsBehind l.persons (length l.row) l.before l.gap l.person l.row l.object l.place
