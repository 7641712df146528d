use Rattle.auc_graph.specs.declared.rows.RowArc.{RowArc}
use Rattle.auc_persons.specs.Priced.{value_in}
use Rattle.auc_persons.specs.Search.{Covers, IsFound, IsLimit}
use Rattle.std.specs.List.{AllWithin}
use Rattle.auc_persons.proofs.bidder.bounded.with_part.Given as goal

abbrev pub invariant-loop-place : goal.invariant-loop-place
invariant-loop-place l = record {
  found : IsFound (value_in l.row) l.row.arcs.now l.search.scan;
  limit : IsLimit l.search.scan l.search.limit;
  kept : (b : RowArc) → Covers (value_in l.row) l.fn.begun.scan b → Covers (value_in l.row) l.search.scan b;
  covered : AllWithin (Covers (value_in l.row) l.search.scan) l.row.arcs.now l.from l.place;
}
