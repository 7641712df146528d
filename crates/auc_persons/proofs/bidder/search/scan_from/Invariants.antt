use Rattle.std.proofs.Common.{take}
use Rattle.std.specs.Prelude.{All}
use Rattle.auc_persons.specs.Priced.{value_in}
use Rattle.auc_persons.specs.Search.{Covers, IsFound, IsLimit}
use Rattle.auc_persons.proofs.bidder.search.scan_from.Given as goal

abbrev pub invariant-loop-place : goal.invariant-loop-place
invariant-loop-place l = record {
  found : IsFound (value_in l.row) l.row.arcs.now l.search.scan;
  limit : IsLimit l.search.scan l.search.limit;
  covered : All (Covers (value_in l.row) l.search.scan) (take l.place l.row.arcs.now);
}
