use Rattle.std.proofs.Common.{◌≡◌, take}
use Rattle.auc_model.specs.Schedule.{Schedule}
use Rattle.auc_machine.specs.Parts.{phase, world_of}
use Rattle.auc_machine.proofs.playing.play.Given as goal

abbrev pub invariant-loop-turn : goal.invariant-loop-turn
invariant-loop-turn l = record {
  schedule : Schedule (phase l.initial.world) (world_of l.initial.world) (take l.turn-index l.turns) (world_of l.world);
  phase : phase l.world ≡ phase l.initial.world;
}
