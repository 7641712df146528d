use Rattle.std.proofs.Common.{refl, ◌∙◌}
use Rattle.auc_machine.proofs.RoundLaws.{hear_played}
use Rattle.auc_machine.proofs.TurnByTurn.{same_phase}
use Rattle.auc_machine.proofs.world.World.hear_all.Goals as goal

pub loop-shard-preserved : goal.loop-shard-preserved
loop-shard-preserved c =
    let before = c.loop-shard.invariant in
    record {
      plays = hear_played c.args.self.now c.loop-shard.self c.person_take.new.self c.loop-shard.shard c.loop-shard.moved c.person_take.result _ _ before.plays before.phase c.person_take.ensures.turn c.has_moved-take.ensures refl;
      phase = same_phase c.loop-shard.self c.person_take.new.self c.person_take.ensures.phase ∙ before.phase;
    }
