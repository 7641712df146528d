use Rattle.std.proofs.Common.{◌≡◌, ◌≤◌, length, None}
use Rattle.auc_graph.specs.declared.limits.TheConstants.{MOST_ARCS}
use Rattle.auc_graph.specs.InMemory.{first_fault}
use Rattle.auc_dense.specs.Table.{table_arcs}
use Rattle.auc_dense.proofs.table.count_arcs.Given as goal

abbrev pub invariant-loop-person : goal.invariant-loop-person
invariant-loop-person l = record {
  count : l.count ≡ length (table_arcs l.objects l.costs l.stride l.gap l.person);
  few : l.count ≤ MOST_ARCS;
  faultless : first_fault l.persons l.objects 0 (table_arcs l.objects l.costs l.stride l.gap l.person) ≡ None;
}
