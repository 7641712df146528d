use Rattle.std.proofs.Common.{◌≡◌, ◌≤◌, ◌-◌, ℕ, length, get_or}
use Rattle.std.specs.Vec.{vec_capacity}
use Rattle.auc_graph.proofs.in_order.begin_rows.Given as goal

abbrev pub invariant-loop-offsets : goal.invariant-loop-offsets
invariant-loop-offsets l = record {
  few : length l.offsets.items ≤ l.len;
  same : (j : ℕ) → get_or l.offsets.items j l.at ≡ get_or l.fn.offsets.items j l.at;
  room : vec_capacity l.offsets ≡ vec_capacity l.fn.offsets;
}

abbrev pub decreases-loop-offsets : goal.decreases-loop-offsets
decreases-loop-offsets l = l.len - length l.offsets.items
