use Rattle.std.proofs.Common.{◌≡◌, ◌≤◌, ◌+◌, ◌++◌}
use Rattle.arrayvec.specs.ArrayVec.{array_vec_len}
use Rattle.auc_threads.specs.Dealing.{prices_told}
use Rattle.auc_threads.proofs.dealing.note_prices.Given as goal

abbrev pub invariant-loop-other : goal.invariant-loop-other
invariant-loop-other l = record {
  few : array_vec_len l.said ≤ array_vec_len l.fn.said + l.other;
  told : l.said.items ≡ l.fn.said.items ++ prices_told l.shard l.other l.knowing l.object;
}
