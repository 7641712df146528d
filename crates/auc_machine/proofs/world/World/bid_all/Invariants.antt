use Rattle.std.proofs.Common.{◌≡◌}
use Rattle.auc_machine.specs.Parts.{phase, world_of}
use Rattle.auc_machine.specs.Rounds.{Plays, bids_of}
use Rattle.auc_machine.proofs.world.World.bid_all.Given as goal

abbrev pub invariant-loop-shard : goal.invariant-loop-shard
invariant-loop-shard l = record {
  plays : Plays (phase l.initial.self) (world_of l.initial.self) (bids_of l.shard) l.moved (world_of l.self);
  phase : phase l.self ≡ phase l.initial.self;
}
