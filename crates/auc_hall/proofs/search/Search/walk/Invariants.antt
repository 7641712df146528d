use Rattle.std.proofs.Common.{get_or}
use Rattle.auc_graph.specs.Table.{row_of}
use Rattle.auc_hall.proofs.QueueLaws.{blank}
use Rattle.auc_hall.proofs.SearchLaws.{IsWalk}
use Rattle.auc_hall.proofs.search.Search.walk.Given as goal

abbrev pub invariant-loop-arc : goal.invariant-loop-arc
invariant-loop-arc l = IsWalk l.rows l.holder l.fn.self.queue.items l.self.queue.items l.fn.self.seen.items l.self.seen.items (row_of l.rows (get_or l.fn.self.queue.items l.at blank).person) l.arc-index
