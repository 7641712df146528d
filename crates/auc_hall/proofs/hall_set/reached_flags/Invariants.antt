use Rattle.std.proofs.Common.{take}
use Rattle.auc_hall.specs.Chosen.{AreReached}
use Rattle.auc_hall.proofs.hall_set.reached_flags.Given as goal

abbrev pub invariant-loop-entry : goal.invariant-loop-entry
invariant-loop-entry l = AreReached (take l.entry-index l.queue) l.persons l.flags.items
