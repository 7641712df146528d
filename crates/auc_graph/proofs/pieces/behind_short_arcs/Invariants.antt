use Rattle.std.proofs.Common.{◌≡◌, ◌≤◌, ◌-◌, ◌++◌, ℕ, List, length, drop}
use Rattle.auc_graph.specs.declared.stage.Stage.TheVariants.{AtPerson}
use Rattle.auc_graph.specs.Pieces.{reading_at, IsStage}
use Rattle.auc_graph.proofs.pieces.behind_short_arcs.Given as goal

abbrev pub invariant-loop-written : goal.invariant-loop-written
invariant-loop-written l = record {
  exact : (more : List ℕ) → reading_at l.limit (AtPerson l.persons l.objects) l.fn.arcs.items (l.bytes ++ more) ≡ reading_at l.limit (AtPerson l.persons l.objects) l.arcs.items (l.rest ++ more);
  sound : IsStage l.limit (AtPerson l.persons l.objects) l.arcs.items;
  few : length l.rest ≤ length l.bytes;
  behind : l.rest ≡ drop (length l.bytes - length l.rest) l.bytes;
}

abbrev pub decreases-loop-written : goal.decreases-loop-written
decreases-loop-written l = length l.rest
