use Rattle.std.proofs.Common.{◌≡◌, ◌<◌, ℕ, List, Option, length}
use Rattle.auc_graph.specs.declared.rows.RowArc.{RowArc}
use Rattle.auc_hall.specs.Matched.{IsPlaced, IsMatched}
use Rattle.auc_hall.specs.Completion.{IsGrown}
use Rattle.auc_hall.proofs.completion.complete_parts.Given as goal

abbrev pub invariant-loop-person : goal.invariant-loop-person
invariant-loop-person l = record {
  matched : IsMatched l.rows l.choice l.holder;
  done : (i : ℕ) → i < l.person → IsPlaced l.choice i;
  seen : length l.search.seen.items ≡ l.rows.objects;
  grown : (after : List (Option RowArc)) → IsGrown l.rows after l.choice → IsGrown l.rows after l.fn.choice;
}
