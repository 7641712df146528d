use Rattle.auc_graph.specs.Bid.{value}
use Rattle.auc_persons.specs.Scan.{copy_in}
use Rattle.auc_persons.proofs.RisingRows.{Nears}
use Rattle.auc_persons.proofs.bidder.sorted_row.SortedRow.best.Given as goal

abbrev pub invariant-loop-place : goal.invariant-loop-place
invariant-loop-place l = Nears (value l.self.scale (copy_in l.self.copies.now)) l.self.arcs.now l.nearest l.place
