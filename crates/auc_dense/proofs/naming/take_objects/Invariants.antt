use Rattle.std.proofs.Common.{◌≡◌, ◌<◌, ◌≤◌, ℕ, length, get_or}
use Rattle.auc_dense.specs.Naming.{object_at}
use Rattle.auc_dense.proofs.naming.take_objects.Given as goal

abbrev pub invariant-loop-place : goal.invariant-loop-place
invariant-loop-place l = record {
  same : length l.choice ≡ length l.initial.choice;
  done : (k : ℕ) → k < l.place-index → get_or l.choice k 0 ≡ object_at l.arcs (get_or l.initial.choice k 0);
  left : (k : ℕ) → l.place-index ≤ k → get_or l.choice k 0 ≡ get_or l.initial.choice k 0;
}
