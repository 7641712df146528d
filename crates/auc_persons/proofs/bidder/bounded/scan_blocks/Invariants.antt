use Rattle.std.proofs.Common.{ℕ, ◌+◌, ◌-◌, ◌*◌, ◌<◌, ◌≤◌, length, get_or, pos}
use Rattle.auc_graph.specs.declared.rows.RowArc.{RowArc}
use Rattle.auc_graph.specs.Bid.{value}
use Rattle.auc_graph.specs.Table.{row_of}
use Rattle.auc_persons.specs.Blocks.{AreOfSame, AreRight}
use Rattle.auc_persons.specs.Scan.{copy_in}
use Rattle.auc_persons.specs.Search.{Covers, IsFound, IsLimit}
use Rattle.auc_persons.proofs.bidder.bounded.scan_blocks.Given as goal

abbrev pub invariant-loop-block : goal.invariant-loop-block
invariant-loop-block l = record {
  found : IsFound (value (pos (length l.own.rows.now.rows + 1)) (copy_in l.own.copies.now)) (row_of l.own.rows.now l.own.person) l.search.scan;
  limit : IsLimit l.search.scan l.search.limit;
  covered : (k : ℕ) (d : RowArc) → k < 16 * l.block → k < length (row_of l.own.rows.now l.own.person) → Covers (value (pos (length l.own.rows.now.rows + 1)) (copy_in l.own.copies.now)) l.search.scan (get_or (row_of l.own.rows.now l.own.person) k d);
  high : l.block ≤ l.count;
  right : AreRight l._made.value l.own.rows.now l.own.copies.now l.bounds;
  same : AreOfSame l.fn.bounds l.bounds;
}

abbrev pub decreases-loop-block : goal.decreases-loop-block
decreases-loop-block l = l.count - l.block
