use Rattle.std.proofs.Common.{◌≡◌, ◌≤◌, map, take, length, vec_capacity}
use Rattle.auc_threads.proofs.gathering.bids_of.Given as goal

abbrev pub invariant-loop-work : goal.invariant-loop-work
invariant-loop-work g l = record {
  bids : l.bids.items ≡ map (λ w. w.seats.objects.count) (take l.work-index l.works);
  many : length l.bids.items ≡ l.work-index;
  room : length l.works ≤ vec_capacity l.bids;
}
