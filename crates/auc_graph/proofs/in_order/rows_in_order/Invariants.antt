use Rattle.std.proofs.Common.{◌≤◌, ◌+◌, length}
use Rattle.std.specs.Vec.{vec_capacity}
use Rattle.auc_graph.proofs.InOrderLaws.{IsInOrder}
use Rattle.auc_graph.proofs.SpreadLaws.{IsRangeOf}
use Rattle.auc_graph.proofs.in_order.rows_in_order.Given as goal

abbrev pub invariant-loop-i : goal.invariant-loop-i
invariant-loop-i g l = record {
  in_order : IsInOrder g.A.Kept.of l.persons l.arcs l.offsets.items l.i l.placed.items;
  range : IsRangeOf l.arcs l.i l.least l.greatest;
  starts : l.persons + 1 ≤ vec_capacity l.offsets;
  places : length l.arcs ≤ vec_capacity l.placed;
}
