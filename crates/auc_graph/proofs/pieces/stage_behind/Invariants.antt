use Rattle.std.proofs.Common.{◌≡◌, ◌≤◌, ◌-◌, ◌++◌, ℕ, List, length, drop}
use Rattle.auc_graph.specs.Pieces.{reading_at, IsStage}
use Rattle.auc_graph.proofs.pieces.stage_behind.Given as goal

abbrev pub invariant-loop-number : goal.invariant-loop-number
invariant-loop-number l = record {
  exact : (more : List ℕ) → reading_at l.limit l.fn.first l.fn.arcs.items (l.piece ++ more) ≡ reading_at l.limit l.stage l.arcs.items (l.rest ++ more);
  sound : IsStage l.limit l.stage l.arcs.items;
  few : length l.rest ≤ length l.piece;
  behind : l.rest ≡ drop (length l.piece - length l.rest) l.piece;
}

abbrev pub decreases-loop-number : goal.decreases-loop-number
decreases-loop-number l = length l.rest
