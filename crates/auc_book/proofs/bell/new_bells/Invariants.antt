use Rattle.std.proofs.Common.{◌≡◌, ◌≤◌, vec_len, vec_capacity}
use Rattle.auc_book.proofs.bell.new_bells.Given as goal

abbrev pub invariant-loop-number : goal.invariant-loop-number
invariant-loop-number l = record {
  long : vec_len l.bells ≡ l.number;
  room : l.boxes ≤ vec_capacity l.bells;
}
