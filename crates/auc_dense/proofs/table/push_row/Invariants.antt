use Rattle.std.proofs.Common.{◌≡◌, ◌++◌, take}
use Rattle.auc_dense.specs.Table.{row_arcs}
use Rattle.auc_dense.proofs.table.push_row.Given as goal

abbrev pub invariant-loop-object : goal.invariant-loop-object
invariant-loop-object l = l.arcs.items ≡ l.initial.arcs.items ++ row_arcs l.gap l.person 0 (take l.object l.row)
