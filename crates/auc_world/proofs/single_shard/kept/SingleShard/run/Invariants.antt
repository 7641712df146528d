use Rattle.auc_persons.specs.Candidates.{Kept}
use Rattle.auc_world.specs.SinglePhase.{IsGoing, left_of}
use Rattle.auc_world.proofs.single_shard.kept.SingleShard.run.Given as goal

abbrev pub invariant-loop-world : goal.invariant-loop-world
invariant-loop-world l = record {
  going : IsGoing l.task l.world;
  kept : Kept l.task.table l.world.copies l.bidder;
}

abbrev pub decreases-loop-world : goal.decreases-loop-world
decreases-loop-world l = left_of l.world
