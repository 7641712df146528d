use Rattle.std.proofs.Common.{length, ◌-◌}
use Rattle.auc_hall.proofs.free_arc.free_arc.Given as goal

abbrev pub decreases-loop-at : goal.decreases-loop-at
decreases-loop-at l = length l.row - l.at
