use Rattle.std.proofs.Common.{refl, ◌∙◌}
use Rattle.auc_model.specs.declared.turn.Turn.{Turn}
use Rattle.auc_machine.proofs.RoundLaws.{three_turns}
use Rattle.auc_machine.proofs.TurnByTurn.{same_phase}
use Rattle.auc_machine.proofs.world.World.take_and_post.Goals as goal

pub returns-clause-plays : goal.returns-clause-plays
returns-clause-plays c =
    let p = c.args.self.now in
    let n = c.object_take.new.self in
    let m = c.object_post.new.self in
    let same = same_phase p n c.object_take.ensures.phase in
    three_turns p n m c.object_post-2.new.self (Turn.ObjectTake c.args.shard) (Turn.ObjectPost c.args.shard) (Turn.ObjectPost c.args.shard) c.object_take.result c.object_post.result c.object_post-2.result _ _ _ _ _
    c.object_take.ensures.turn same c.object_post.ensures.turn (same_phase n m c.object_post.ensures.phase ∙ same) c.object_post-2.ensures.turn c.has_moved-takes.ensures c.has_moved-first.ensures c.has_moved-second.ensures refl refl
