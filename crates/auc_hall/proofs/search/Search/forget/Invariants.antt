use Rattle.std.proofs.Common.{◌≡◌, length}
use Rattle.auc_hall.proofs.SearchLaws.{AreLeft}
use Rattle.auc_hall.proofs.search.Search.forget.Given as goal

abbrev pub invariant-loop-place : goal.invariant-loop-place
invariant-loop-place l = record {
  queue : l.self.queue.items ≡ l.fn.self.queue.items;
  size : length l.self.seen.items ≡ length l.fn.self.seen.items;
  left : AreLeft l.self.queue.items l.self.seen.items l.place;
}
