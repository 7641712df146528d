use Rattle.std.proofs.Common.{◌≡◌, ◌≤◌, ◌-◌, ◌++◌, ℕ, List, length, drop}
use Rattle.std.specs.Vec.{vec_capacity}
use Rattle.auc_graph.specs.declared.stage.Stage.TheVariants.{AtPerson}
use Rattle.auc_graph.specs.Pieces.{reading_at, IsStage}
use Rattle.auc_graph.proofs.pieces.behind_row.Given as goal

abbrev pub invariant-lines : goal.invariant-lines
invariant-lines l = record {
  exact : (more : List ℕ) → reading_at l.limit (AtPerson l._persons l.objects) l.fn.arcs.items (l.bytes ++ more) ≡ reading_at l.limit (AtPerson l._persons l.objects) l.arcs.items (l.rest ++ more);
  room : l.end ≤ vec_capacity l.arcs;
  most : l.end ≤ l.limit;
  sound : IsStage l.limit (AtPerson l._persons l.objects) l.arcs.items;
  few : length l.rest ≤ length l.bytes;
  behind : l.rest ≡ drop (length l.bytes - length l.rest) l.bytes;
}

abbrev pub decreases-lines : goal.decreases-lines
decreases-lines l = length l.rest
