use Rattle.std.proofs.Common.{◌≡◌}
use Rattle.auc_dense.specs.Table.{table_arcs}
use Rattle.auc_dense.proofs.table.arcs_of_table.Given as goal

abbrev pub invariant-loop-person : goal.invariant-loop-person
invariant-loop-person l = l.arcs.items ≡ table_arcs l.objects l.costs l.stride l.gap l.person
