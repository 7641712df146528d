use Rattle.std.specs.Prelude.{IsTrue}
use Rattle.auc_dense.specs.Tried.{IsNoneBelow}
use Rattle.auc_dense.proofs.trying.is_none_below.Given as goal

abbrev pub invariant-loop-object : goal.invariant-loop-object
invariant-loop-object l = IsTrue l.is_none → IsNoneBelow l.gap l.row l.prices l.least l.object
