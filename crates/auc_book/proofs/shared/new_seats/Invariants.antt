use Rattle.std.proofs.Common.{◌≡◌, ◌+◌, ◌≤◌, map, vec_len, vec_capacity}
use Rattle.std.specs.List.{range_with_len}
use Rattle.auc_book.specs.Seat.{new_account}
use Rattle.auc_book.proofs.shared.new_seats.Given as goal

abbrev pub invariant-loop-worker : goal.invariant-loop-worker
invariant-loop-worker g l = record {
  parts : l.shares.parts + l.worker ≡ l.workers;
  amount : l.shares.amount ≡ 0;
  told : l.seats.items ≡ map new_account (range_with_len 0 l.worker);
  long : vec_len l.seats ≡ l.worker;
  room : l.workers ≤ vec_capacity l.seats;
}
