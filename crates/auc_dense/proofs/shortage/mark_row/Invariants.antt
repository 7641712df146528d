use Rattle.auc_dense.specs.Shortage.{IsRowMarked}
use Rattle.auc_dense.proofs.shortage.mark_row.Given as goal

abbrev pub invariant-loop-object : goal.invariant-loop-object
invariant-loop-object l = IsRowMarked l.gap l.row l.initial.known l.known l.object
