use Rattle.std.proofs.Common.{◌≡◌}
use Rattle.auc_hall.proofs.labels.Labels.place_freely.Given as goal

abbrev pub invariant-loop-person : goal.invariant-loop-person
invariant-loop-person l = l.self.rows.now ≡ l.rows
