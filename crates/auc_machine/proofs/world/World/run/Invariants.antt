use Rattle.std.proofs.Common.{ℕ, ◌≡◌}
use Rattle.auc_machine.specs.Parts.{phase, world_of}
use Rattle.auc_machine.specs.Rounds.{Rounds}
use Rattle.auc_machine.proofs.RoundLaws.{left}
use Rattle.auc_machine.proofs.world.World.run.Given as goal

abbrev pub invariant-loop-self : goal.invariant-loop-self
invariant-loop-self l = record {
  rounds : (n : ℕ) × Rounds (phase l.initial.self) (world_of l.initial.self) n (world_of l.self);
  phase : phase l.self ≡ phase l.initial.self;
}

abbrev pub decreases-loop-self : goal.decreases-loop-self
decreases-loop-self l = left (phase l.self) (world_of l.self)
