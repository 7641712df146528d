use Rattle.std.proofs.Common.{◌≡◌, ◌+◌, ◌-◌, ◌*◌, ◌≤◌, length, pos, take}
use Rattle.auc_graph.specs.Bid.{value}
use Rattle.auc_graph.specs.Table.{row_of}
use Rattle.auc_persons.specs.Blocks.{AreOfSame, AreRight}
use Rattle.auc_persons.specs.Candidates.{Gathered}
use Rattle.auc_persons.specs.Scan.{copy_in}
use Rattle.auc_persons.proofs.bidder.lists_by_blocks.fill_by_blocks.Given as goal

abbrev pub invariant-loop-block : goal.invariant-loop-block
invariant-loop-block l = record {
  gathered : Gathered (value (pos (length l.own.rows.now.rows + 1)) (copy_in l.own.copies.now)) (take (16 * l.block) (row_of l.own.rows.now l.own.person)) l.list.arcs l.bound;
  bound : l.list.bound ≡ l.bound;
  owner : l.list.person ≡ l.fn.list.person;
  high : l.block ≤ l.count;
  right : AreRight l._made.value l.own.rows.now l.own.copies.now l.bounds;
  same : AreOfSame l.fn.bounds l.bounds;
}

abbrev pub decreases-loop-block : goal.decreases-loop-block
decreases-loop-block l = l.count - l.block
