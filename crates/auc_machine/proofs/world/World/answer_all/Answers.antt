use Rattle.std.proofs.Common.{refl, ◌∙◌}
use Rattle.auc_machine.proofs.RoundLaws.{answers_more}
use Rattle.auc_machine.proofs.TurnByTurn.{same_phase}
use Rattle.auc_machine.proofs.world.World.answer_all.Goals as goal

pub loop-shard-preserved : goal.loop-shard-preserved
loop-shard-preserved c =
    let before = c.loop-shard.invariant in
    record {
      plays = answers_more c.args.self.now c.loop-shard.self c.take_and_post-here.new.self c.loop-shard.shard c.loop-shard.moved c.take_and_post-here.result _ before.plays before.phase c.take_and_post-here.ensures.plays refl;
      phase = same_phase c.loop-shard.self c.take_and_post-here.new.self c.take_and_post-here.ensures.phase ∙ before.phase;
    }
